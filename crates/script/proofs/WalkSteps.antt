-- One line more of a walk, and its ends.
use Rattle.std.proofs.Common.{◌≡◌, ◌-◌, ℕ, List, [], ◌∷◌, ◌++◌, drop, Option, Some, None, Result, Ok, Err, true, false, refl, sym, ap, ◌∙◌, subst, arith}
use Rattle.std.specs.Prelude.{IfSome, ⊤}
use Rattle.job.specs.Halts.{fault_of_halt}
use Rattle.job.specs.declared.fault.Fault.TheVariants as Faults
use Rattle.job.specs.declared.halt.Halt.{Halt}
use Rattle.job.specs.declared.halt.Halt.TheVariants as Halts
use Rattle.text.specs.LineReader.{hand, lines_left, script_past}
use Rattle.text.specs.declared.line_reader.lines.LineReader.{LineReader}
use Rattle.text.proofs.LineRunLaws.{none_passed}
use Rattle.script.specs.Outcome.{Reading, with_line}
use Rattle.script.specs.Walked.{Halting, HaltsIn, StepsTaken, Taking, Walked}
use Rattle.script.specs.Words.{Advances, BadLine, Command, Fault, Request, Script, ScriptFault, TcFault, bad_line, reading_of, request_of, script_left}
use Rattle.script.proofs.TakingLaws.{HasTaken, taken_all, taken_first, taken_more, taken_none, taken_short}

-- a walk that a call ended
halted_walk : {S W H T : Type 0} (took : Taking S W H) (cut : Halting S W H) (reading : Reading) (f : Result T (Fault BadLine)) (halt : Halt) (s t : S) (w v : W) (h k : H) → f ≡ Err (fault_of_halt halt)
    → HaltsIn took cut reading.requests halt s w h t v k → Walked took cut reading f s w h t v k
halted_walk {T = T} took cut reading f Halts.Write s t w v h k e = subst (λ (x : Result T (Fault BadLine)). Walked took cut reading x s w h t v k) (sym e)
halted_walk {T = T} took cut reading f Halts.Memory s t w v h k e = subst (λ (x : Result T (Fault BadLine)). Walked took cut reading x s w h t v k) (sym e)

module _ (read : List (List ℕ) → Result Command TcFault) where
  -- what the lines to come ask
  abbrev pub asked : Script → List Request
  asked script = (reading_of read script).requests

  -- a line before the others
  line_more : (number : ℕ) (line : List ℕ) (left next : Option Script) (script : Script) (said : Result (Option Request) ScriptFault) → left ≡ Some script → Advances left (Ok true) number line next → request_of read line ≡ said
      → (rest : Script) × ((next ≡ Some rest) × (reading_of read script ≡ with_line number said (reading_of read rest)))
  line_more number line None next script said is a e = absurd (let no : ◌≡◌ {A = Option Script} None (Some script) = is in cc)
  line_more number line (Some left) next script said is (rest, to, parts) e =
      let same : left ≡ script = cc in
      (rest, (to, ap (reading_of read) (sym same ∙ parts) ∙ ap (λ x. with_line number x (reading_of read rest)) e))

  module _ {S W H : Type 0} (took : Taking S W H) (cut : Halting S W H) where
    -- what was taken and what the lines to come ask is what known lines ask
    abbrev pub Goes : Option Script → S → W → H → Option Script → S → W → H → Type 0
    Goes None s w h left t v k = ⊤
    Goes (Some all) s w h None t v k = ⊥
    Goes (Some all) s w h (Some script) t v k = HasTaken took cut s w h t v k (asked all) (asked script) × ((reading_of read all).fault ≡ (reading_of read script).fault)

    pub is_begun : ((s : S) (w : W) (h : H) → took [] s w h s w h) → (all : Option Script) (s : S) (w : W) (h : H) → Goes all s w h all s w h
    is_begun nothing None s w h = tt
    is_begun nothing (Some all) s w h = (taken_none took cut nothing s w h (asked all), refl)

    -- a walk that stands before the lines in hand of a reader, whichever has these octets in hand and so many lines left, has come to
    -- these octets by so many lines
    abbrev pub ComesInHand : {R A : Type 0} → (R → Option (List ℕ)) → LineReader R A → Option Script → S → W → H → List ℕ → ℕ → S → W → H → S → W → H → List ℕ → ℕ → Type 0
    ComesInHand {R} {A} remaining like all s w h octets most t0 v0 k0 t v k rest passed =
        (lines : LineReader R A) → octets ≡ hand lines → most ≡ lines_left lines → Goes all s w h (script_left remaining lines) t0 v0 k0
        → Goes all s w h (script_past remaining lines rest passed) t v k

    module _ {R A : Type 0} (remaining : R → Option (List ℕ)) (lines : LineReader R A) (all : Option Script) (s : S) (w : W) (h : H) (t : S) (v : W) (k : H) where
      pub begins_in_hand : (octets : List ℕ) (most : ℕ) → octets ≡ hand lines → Goes all s w h (script_left remaining lines) t v k → Goes all s w h (script_past remaining lines octets (most - most)) t v k
      begins_in_hand octets most all_hand =
          let none : most - most ≡ 0 = omega arith in
          subst (λ x. Goes all s w h x t v k) (sym (ap (script_past remaining lines octets) none ∙ ap (λ rest. script_past remaining lines rest 0) all_hand ∙ none_passed remaining lines))

      -- the reader goes past the lines in hand that were taken
      pub past_taken : (behind : LineReader R A) (octets rest : List ℕ) (n passed : ℕ) → Goes all s w h (script_past remaining lines rest passed) t v k → rest ≡ drop n octets → octets ≡ hand lines
          → script_left remaining behind ≡ script_past remaining lines (drop n (hand lines)) passed → Goes all s w h (script_left remaining behind) t v k
      past_taken behind octets rest n passed i front all_hand past =
          let same : script_past remaining lines rest passed ≡ script_left remaining behind = ap (λ left. script_past remaining lines left passed) (front ∙ ap (drop n) all_hand) ∙ sym past in
          subst (λ x. Goes all s w h x t v k) same i

    module _ (s : S) (w : W) (h : H) (t : S) (v : W) (k : H) where
      module _ (both : (xs ys : List Request) (s t u : S) (w v x : W) (h k l : H) → took xs s w h t v k → took ys t v k u x l → took (xs ++ ys) s w h u x l) where
        -- nothing of a line is taken
        pub goes_quietly : (all left : Option Script) (u : S) (x : W) (l : H) → Goes all s w h left t v k → took [] t v k u x l → Goes all s w h left u x l
        goes_quietly None left u x l g more = tt
        goes_quietly (Some all) None u x l g more = absurd g
        goes_quietly (Some all) (Some script) u x l g more = (taken_more took cut s w h t v k _ _ g.0 both u x l [] (asked script) refl more, g.1)

        -- a line is taken
        pub goes_on : (all left : Option Script) (number : ℕ) (line : List ℕ) (next : Option Script) (r : Request) (u : S) (x : W) (l : H) → Goes all s w h left t v k → Advances left (Ok true) number line next → request_of read line ≡ Ok (Some r)
            → took (r ∷ []) t v k u x l → Goes all s w h next u x l
        goes_on None left number line next r u x l g a e more = tt
        goes_on (Some all) None number line next r u x l g a e more = absurd g
        goes_on (Some all) (Some script) number line next r u x l g a e more =
            let (rest, (to, same)) = line_more number line (Some script) next script (Ok (Some r)) refl a e in
            subst (λ y. Goes (Some all) s w h y u x l) (sym to)
            (taken_more took cut s w h t v k _ _ g.0 both u x l (r ∷ []) (asked rest) (ap (λ y. y.requests) same) more, g.1 ∙ ap (λ y. y.fault) same)

      -- a line is skipped
      pub goes_past : (all left : Option Script) (number : ℕ) (line : List ℕ) (next : Option Script) → Goes all s w h left t v k → Advances left (Ok true) number line next → request_of read line ≡ Ok None → Goes all s w h next t v k
      goes_past None left number line next g a e = tt
      goes_past (Some all) None number line next g a e = absurd g
      goes_past (Some all) (Some script) number line next g a e =
          let (rest, (to, same)) = line_more number line (Some script) next script (Ok None) refl a e in
          subst (λ y. Goes (Some all) s w h y t v k) (sym to)
          (subst (λ (y : Reading). HasTaken took cut s w h t v k (asked all) y.requests × ((reading_of read all).fault ≡ y.fault)) same g)

      module _ {T : Type 0} {f : Result T (Fault BadLine)} where
        -- a call that takes a line couldn't go on
        pub goes_no_further : ((xs ys : List Request) (halt : Halt) (s t u : S) (w v x : W) (h k l : H) → took xs s w h t v k → cut ys halt t v k u x l → cut (xs ++ ys) halt s w h u x l)
            → (all left : Option Script) (number : ℕ) (line : List ℕ) (next : Option Script) (r : Request) (halt : Halt) (u : S) (x : W) (l : H) → Goes all s w h left t v k → Advances left (Ok true) number line next → request_of read line ≡ Ok (Some r)
            → cut (r ∷ []) halt t v k u x l → f ≡ Err (fault_of_halt halt) → IfSome all (λ script. Walked took cut (reading_of read script) f s w h u x l)
        goes_no_further cut_later None left number line next r halt u x l g a e short is = tt
        goes_no_further cut_later (Some all) None number line next r halt u x l g a e short is = absurd g
        goes_no_further cut_later (Some all) (Some script) number line next r halt u x l g a e short is =
            let (rest, (to, same)) = line_more number line (Some script) next script (Ok (Some r)) refl a e in
            halted_walk took cut (reading_of read all) f halt s u w x h l is (taken_short took cut s w h t v k _ _ g.0 cut_later u x l halt (r ∷ []) (asked rest) (ap (λ y. y.requests) same) short)

        -- a line with a fault
        pub goes_wrong : (all left : Option Script) (number : ℕ) (line : List ℕ) (next : Option Script) (fault : ScriptFault) → Goes all s w h left t v k → Advances left (Ok true) number line next → request_of read line ≡ Err fault
            → f ≡ Err (Faults.Input (bad_line number fault)) → IfSome all (λ script. Walked took cut (reading_of read script) f s w h t v k)
        goes_wrong None left number line next fault g a e is = tt
        goes_wrong (Some all) None number line next fault g a e is = absurd g
        goes_wrong (Some all) (Some script) number line next fault g a e is =
            let (rest, (to, same)) = line_more number line (Some script) next script (Err fault) refl a e in
            subst (λ (y : Result T (Fault BadLine)). Walked took cut (reading_of read all) y s w h t v k) (sym is)
            (g.1 ∙ ap (λ y. y.fault) same, taken_all took cut s w h t v k _ _ g.0 (ap (λ y. y.requests) same))

        -- there is no next line
        pub ends : (all left : Option Script) (number : ℕ) (line : List ℕ) (next : Option Script) (done : T) → Goes all s w h left t v k → Advances left (Ok false) number line next → f ≡ Ok done
            → IfSome all (λ script. Walked took cut (reading_of read script) f s w h t v k)
        ends None left number line next done g a is = tt
        ends (Some all) None number line next done g a is = absurd g
        ends (Some all) (Some script) number line next done g a is =
            subst (λ (y : Result T (Fault BadLine)). Walked took cut (reading_of read all) y s w h t v k) (sym is)
            (g.1 ∙ ap (λ x. (reading_of read x).fault) a, taken_all took cut s w h t v k _ _ g.0 (ap asked a))

        -- no next line can be had, or the taker could not be told that it is waited for
        pub stops : ((xs ys : List Request) (s t u : S) (w v x : W) (h k l : H) → took xs s w h t v k → took ys t v k u x l → took (xs ++ ys) s w h u x l)
            → ((xs ys : List Request) (halt : Halt) (s t u : S) (w v x : W) (h k l : H) → took xs s w h t v k → cut ys halt t v k u x l → cut (xs ++ ys) halt s w h u x l)
            → (all left : Option Script) (number : ℕ) (line : List ℕ) (next : Option Script) (u : S) (x : W) (l : H) (fault : Fault BadLine) → Goes all s w h left t v k → StepsTaken took cut left (Err fault) number line next t v k u x l → f ≡ Err fault
            → IfSome all (λ script. Walked took cut (reading_of read script) f s w h u x l)
        stops both cut_later None left number line next u x l fault g a is = tt
        stops both cut_later (Some all) None number line next u x l fault g a is = absurd g
        stops both cut_later (Some all) (Some script) number line next u x l fault g a is =
            subst (λ (y : Result T (Fault BadLine)). Walked took cut (reading_of read all) y s w h u x l) (sym is) (by fault a)
          where
            waited : took [] t v k u x l → HasTaken took cut s w h u x l (asked all) (asked script)
            waited more = taken_more took cut s w h t v k _ _ g.0 both u x l [] (asked script) refl more

            short : (halt : Halt) → cut [] halt t v k u x l → HaltsIn took cut (asked all) halt s w h u x l
            short halt c = taken_short took cut s w h t v k _ _ g.0 cut_later u x l halt [] (asked script) refl c

            by : (fault : Fault BadLine) → StepsTaken took cut (Some script) (Err fault) number line next t v k u x l → Walked took cut {T = T} (reading_of read all) (Err fault) s w h u x l
            by (Faults.Input fault) ((n, limit, same, is), more) =
                (g.1 ∙ ap (λ y. (reading_of read y).fault) is ∙ ap Some (sym same), taken_all took cut s w h u x l _ _ (waited more) (ap asked is))
            by Faults.Read (is, more) = taken_first took cut s w h u x l _ _ (waited more)
            by Faults.Write c = short Halts.Write c
            by Faults.Memory c = short Halts.Memory c
