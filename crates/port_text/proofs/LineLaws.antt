-- A line has one reading, and the lines that are read as commands are those of the grammar.
use Rattle.std.proofs.Common.{◌≡◌, ℕ, Bool, true, false, cond, List, [], ◌∷◌, length, None, Some, Result, Ok, Err, refl, sym, ap, subst, ◌∙◌, codes, inl, inr}
use Rattle.std.specs.Prelude.{◌&&◌, ◌||◌, ◌⊎◌, ◌↔◌, MatchOption, IfErr}
use Rattle.std.specs.declared.option.Option.{Option}
use Rattle.std.specs.List.{list_any}
use Rattle.std.specs.Str.{bytes_eq}
use Rattle.abstract_port.specs.declared.Change.{Change}
use Rattle.port_text.specs.Words.{Command, Verb, Replace, Delete, TcFault, Word, ◌>>=◌, Item, Options, no_options, given_by, Head, dev, root, usual_heads, is_dev, is_parent, ReadsHeads, change_given, heads_missing, verb_of, verb_at, replacement_of, ReadsOptions, deletion_before, ReadsRest, ReadsLine, HasFault, heads_before, AreNewHeads, IsCommand}
use Rattle.abstract_port.specs.declared.Command.TheVariants as commands
use Rattle.port_text.specs.declared.tc_reader.fault.TcFault.TheVariants as faults
use Rattle.port_text.specs.TcLines.{verb_with_rest, deletion_of}
use Rattle.port_text.specs.Grammar.{ReplacesBy, IsReplacement, IsDeletion}
use Rattle.port_text.proofs.RunLemmas.{ok_is}
use Rattle.port_text.proofs.GrammarLemmas.{bind_ok, Reads-take, Reads-again, Reads-one}
use Rattle.port_text.proofs.HeadsGrammar.{End, is_word, heads_take, heads_again, heads_one}

-- what is said of the words after the verb
abbrev Behind : List Word → Result Command TcFault → Verb × List Word → Type 0
Behind line result x = (heads : List Head) × (end : End) × ReadsHeads [] x.1 heads end × ReadsRest (length line) x.0 heads end result

-- ---- one reading

matched_one : (g : Options) (last : Option TcFault) (d p : Bool) (r s : Result Command TcFault) → MatchOption last (r ≡ replacement_of d p g) (λ f. r ≡ Err f) → MatchOption last (s ≡ replacement_of d p g) (λ f. s ≡ Err f) → r ≡ s
matched_one g None d p r s a b = a ∙ sym b
matched_one g (Some f) d p r s a b = a ∙ sym b

abbrev Matched : Bool → Bool → Result Command TcFault → List Item → Option TcFault → Type 0
Matched d p r is last = MatchOption last (r ≡ replacement_of d p (given_by is)) (λ f. r ≡ Err f)

options_one : (count : ℕ) (d p : Bool) (ws : List Word) (r s : Result Command TcFault) → ReadsOptions count d p ws r → ReadsOptions count d p ws s → r ≡ s
options_one count d p ws r s (is, last, reads, a) (js, final, again, b) =
    let same = Reads-one no_options count ws is js last final reads again in
    let moved : Matched d p r js final = subst (λ (l : Option TcFault). Matched d p r js l) same.1 (subst (λ (l : List Item). Matched d p r l last) same.0 a) in
    matched_one (given_by js) final d p r s moved b

goes_one : (count : ℕ) (v : Verb) (heads : List Head) (end : End) (r s : Result Command TcFault) → ReadsRest count v heads end r → ReadsRest count v heads end s → r ≡ s
goes_one count v heads (Err f) r s a b = a ∙ sym b
goes_one count Replace heads (Ok None) r s a b = a ∙ sym b
goes_one count Replace heads (Ok (Some ws)) r s a b = options_one count (list_any is_dev heads) (list_any is_parent heads) ws r s a b
goes_one count Delete heads (Ok rest) r s a b = a ∙ sym b

behind_one : (line : List Word) (x : Verb × List Word) (r s : Result Command TcFault) → Behind line r x → Behind line s x → r ≡ s
behind_one line x r s (hs, d, reads, a) (ks, e, again, b) =
    let same = heads_one [] x.1 hs ks d e reads again in
    let moved : ReadsRest (length line) x.0 ks e r = subst (λ (l : End). ReadsRest (length line) x.0 ks l r) same.1 (subst (λ (l : List Head). ReadsRest (length line) x.0 l d r) same.0 a) in
    goes_one (length line) x.0 ks e r s moved b

pub line_one : (line : List Word) (r s : Result Command TcFault) → ReadsLine line r → ReadsLine line s → r ≡ s
line_one line r s a b = by_verb (verb_at line) a b
  where
    by_verb : (o : Option (Verb × List Word)) → MatchOption o (r ≡ Err faults.NotTaprio) (Behind line r) → MatchOption o (s ≡ Err faults.NotTaprio) (Behind line s) → r ≡ s
    by_verb None a b = a ∙ sym b
    by_verb (Some x) a b = behind_one line x r s a b

-- ---- what is read as a command is in the grammar

-- the words of a verb
abbrev Says : Verb → Word → Type 0
Says Replace w = ReplacesBy w
Says Delete w = w ≡ codes "del"

verb_says : (w : Word) (v : Verb) → verb_of w ≡ Some v → Says v w
verb_says w v e = by_tests (bytes_eq w (codes "add")) (bytes_eq w (codes "replace")) (bytes_eq w (codes "change")) (bytes_eq w (codes "del")) refl refl refl refl e
  where
    replaces : ReplacesBy w → ◌≡◌ {A = Option Verb} (Some Replace) (Some v) → Says v w
    replaces by e = subst (λ (u : Verb). Says u w) (let same : Replace ≡ v = cc in same) by

    by_tests : (a b c d : Bool) → bytes_eq w (codes "add") ≡ a → bytes_eq w (codes "replace") ≡ b → bytes_eq w (codes "change") ≡ c → bytes_eq w (codes "del") ≡ d
        → cond (a || b || c) (Some Replace) (cond d (Some Delete) None) ≡ Some v → Says v w
    by_tests true b c d p q r s e = replaces (inl (is_word w (codes "add") p)) e
    by_tests false true c d p q r s e = replaces (inr (inl (is_word w (codes "replace") q))) e
    by_tests false false true d p q r s e = replaces (inr (inr (is_word w (codes "change") r))) e
    by_tests false false false true p q r s e = subst (λ (u : Verb). Says u w) (let same : Delete ≡ v = cc in same) (is_word w (codes "del") s)
    by_tests false false false false p q r s e = absurd cc

-- the first words of a line
pub record FirstWords (line : List Word) (v : Verb) (ws : List Word) : Type 0 where
  pub verb : Word
  pub line_is : line ≡ codes "tc" ∷ codes "qdisc" ∷ verb ∷ ws
  pub says : Says v verb

first_words : (line : List Word) (v : Verb) (ws : List Word) → verb_at line ≡ Some (v, ws) → FirstWords line v ws
first_words [] v ws e = absurd cc
first_words (a ∷ []) v ws e = absurd cc
first_words (a ∷ b ∷ []) v ws e = absurd cc
first_words (a ∷ b ∷ w ∷ rest) v ws e = by_tests (bytes_eq a (codes "tc")) (bytes_eq b (codes "qdisc")) (verb_of w) refl refl refl e
  where
    by_tests : (s t : Bool) (o : Option Verb) → bytes_eq a (codes "tc") ≡ s → bytes_eq b (codes "qdisc") ≡ t → verb_of w ≡ o
        → cond (s && t) (verb_with_rest o rest) None ≡ Some (v, ws) → FirstWords (a ∷ b ∷ w ∷ rest) v ws
    by_tests true true None p q r e = absurd cc
    by_tests true true (Some u) p q r e =
        let same : (u, rest) ≡ (v, ws) = cc in
        let same_verb : u ≡ v = ap (λ (x : Verb × List Word). x.0) same in
        let same_rest : rest ≡ ws = ap (λ (x : Verb × List Word). x.1) same in
        record {
          verb = w;
          line_is = rw (is_word a (codes "tc") p, is_word b (codes "qdisc") q, same_rest) refl;
          says = verb_says w v (r ∙ ap Some same_verb);
        }
    by_tests true false o p q r e = absurd cc
    by_tests false t o p q r e = absurd cc

-- a line with both heads that it must have
both_heads : (d p : Bool) (u : Unit {0}) → heads_missing d p ≡ Ok u → (d ≡ true) × (p ≡ true)
both_heads true true u e = (refl, refl)
both_heads true false u e = absurd cc
both_heads false p u e = absurd cc

replacement_take : (d p : Bool) (g : Options) (c : Command) → replacement_of d p g ≡ Ok c → (d ≡ true) × (p ≡ true) × (change : Change) × (change_given g ≡ Ok change) × (commands.Replace change ≡ c)
replacement_take d p g c e =
    let a = bind_ok (heads_missing d p) (λ _. change_given g >>= λ change. Ok (commands.Replace change)) c e in
    let b = bind_ok (change_given g) (λ change. Ok (commands.Replace change)) c a.2 in
    let both = both_heads d p a.0 a.1 in
    (both.0, both.1, b.0, b.1, ok_is (commands.Replace b.0) c b.2)

deletion_take : (d p : Bool) (c : Command) → deletion_of d p ≡ Ok c → (d ≡ true) × (p ≡ true) × (commands.Delete ≡ c)
deletion_take d p c e =
    let a = bind_ok (heads_missing d p) (λ _. Ok commands.Delete) c e in
    let both = both_heads d p a.0 a.1 in
    (both.0, both.1, ok_is commands.Delete c a.2)

options_take : (line ws rest : List Word) (heads : List Head) (c : Command) → FirstWords line Replace ws → ReadsHeads [] ws heads (Ok (Some rest))
    → ReadsOptions (length line) (list_any is_dev heads) (list_any is_parent heads) rest (Ok c) → IsCommand line c
options_take line ws rest heads c first reads (items, Some f, options, e) = absurd cc
options_take line ws rest heads c first reads (items, None, options, e) =
    let t = heads_take [] ws heads (Some rest) reads in
    let made = replacement_take (list_any is_dev heads) (list_any is_parent heads) (given_by items) c (sym e) in
    let read = Reads-take no_options (length line) rest items options in
    subst (IsCommand line) made.4 (record {
      verb = first.verb;
      heads = heads;
      items = items;
      ws = rest;
      line_is = first.line_is ∙ ap (λ (l : List Word). codes "tc" ∷ codes "qdisc" ∷ first.verb ∷ l) (t.1 ∙ ap (heads_before heads) t.3);
      verb_is = first.says;
      heads_are = record { once = t.2; has_dev = made.0; has_parent = made.1 };
      options_are = read.0;
      once = read.1;
      change_is = made.3;
    })

deletion_taken : (line ws tail : List Word) (heads : List Head) (c : Command) → FirstWords line Delete ws → ws ≡ heads_before heads tail → AreNewHeads [] heads → (tail ≡ []) ⊎ (tail ≡ codes "taprio" ∷ [])
    → deletion_of (list_any is_dev heads) (list_any is_parent heads) ≡ Ok c → IsCommand line c
deletion_taken line ws tail heads c first stands once end e =
    let made = deletion_take (list_any is_dev heads) (list_any is_parent heads) c e in
    subst (IsCommand line) made.2 (record {
      heads = heads;
      ws = tail;
      line_is = first.line_is ∙ ap (λ (v : Word). codes "tc" ∷ codes "qdisc" ∷ v ∷ ws) first.says ∙ ap (λ (l : List Word). codes "tc" ∷ codes "qdisc" ∷ codes "del" ∷ l) stands;
      end_is = end;
      heads_are = record { once = once; has_dev = made.0; has_parent = made.1 };
    })

goes_take : (line : List Word) (v : Verb) (ws : List Word) (heads : List Head) (end : End) (c : Command) → FirstWords line v ws → ReadsHeads [] ws heads end → ReadsRest (length line) v heads end (Ok c) → IsCommand line c
goes_take line v ws heads (Err f) c first reads g = absurd (let x : ◌≡◌ {A = Result Command TcFault} (Ok c) (Err f) = g in cc)
goes_take line Replace ws heads (Ok None) c first reads g = absurd cc
goes_take line Replace ws heads (Ok (Some rest)) c first reads g = options_take line ws rest heads c first reads g
goes_take line Delete ws heads (Ok None) c first reads g =
    let t = heads_take [] ws heads None reads in
    deletion_taken line ws t.0 heads c first t.1 t.2 (inl t.3) (sym g)
goes_take line Delete ws heads (Ok (Some [])) c first reads g =
    let t = heads_take [] ws heads (Some []) reads in
    deletion_taken line ws t.0 heads c first t.1 t.2 (inr t.3) (sym g)
goes_take line Delete ws heads (Ok (Some (w ∷ rest))) c first reads g = absurd cc

pub line_take : (line : List Word) (c : Command) → ReadsLine line (Ok c) → IsCommand line c
line_take line c r = by_verb (verb_at line) refl r
  where
    by_verb : (o : Option (Verb × List Word)) → verb_at line ≡ o → MatchOption o (◌≡◌ {A = Result Command TcFault} (Ok c) (Err faults.NotTaprio)) (Behind line (Ok c)) → IsCommand line c
    by_verb None is r = absurd cc
    by_verb (Some (v, ws)) is (heads, end, reads, g) = goes_take line v ws heads end c (first_words line v ws is) reads g

-- ---- what is in the grammar is read

verb_again : (w : Word) → ReplacesBy w → verb_of w ≡ Some Replace
verb_again w (inl e) = rw e refl
verb_again w (inr (inl e)) = rw e refl
verb_again w (inr (inr e)) = rw e refl

behind : (line : List Word) (r : Result Command TcFault) (x : Verb × List Word) → verb_at line ≡ Some x → Behind line r x → ReadsLine line r
behind line r x is b = subst (λ (o : Option (Verb × List Word)). MatchOption o (r ≡ Err faults.NotTaprio) (Behind line r)) (sym is) b

replacement_again : (line : List Word) (change : Change) → IsReplacement line change → ReadsLine line (Ok (commands.Replace change))
replacement_again line change is =
    let words = heads_before is.heads (codes "taprio" ∷ is.ws) in
    let at : verb_at line ≡ Some (Replace, words) = ap verb_at is.line_is ∙ rw (verb_again is.verb is.verb_is) refl in
    let heads : ReadsHeads [] words is.heads (Ok (Some is.ws)) = heads_again [] is.heads (codes "taprio" ∷ is.ws) (Ok (Some is.ws)) (λ b. refl) is.heads_are.once in
    let options = Reads-again no_options (length line) is.ws is.items is.options_are is.once in
    let made : Ok (commands.Replace change) ≡ replacement_of (list_any is_dev is.heads) (list_any is_parent is.heads) (given_by is.items) = rw (is.heads_are.has_dev, is.heads_are.has_parent, is.change_is) refl in
    behind line (Ok (commands.Replace change)) (Replace, words) at (is.heads, Ok (Some is.ws), heads, (is.items, None, options, made))

deletion_ends : (tail : List Word) (b : List Head) → (tail ≡ []) ⊎ (tail ≡ codes "taprio" ∷ []) → (o : Option (List Word)) × ((o ≡ None) ⊎ (o ≡ Some [])) × ((b : List Head) → ReadsHeads b tail [] (Ok o))
deletion_ends tail b (inl e) = (None, inl refl, λ b. subst (λ (l : List Word). ReadsHeads b l [] (Ok None)) (sym e) refl)
deletion_ends tail b (inr e) = (Some [], inr refl, λ b. subst (λ (l : List Word). ReadsHeads b l [] (Ok (Some []))) (sym e) refl)

no_more : (count : ℕ) (d p : Bool) (o : Option (List Word)) → (o ≡ None) ⊎ (o ≡ Some []) → deletion_before count d p o ≡ deletion_of d p
no_more count d p o (inl e) = rw e refl
no_more count d p o (inr e) = rw e refl

deletion_again : (line : List Word) → IsDeletion line → ReadsLine line (Ok commands.Delete)
deletion_again line is =
    let words = heads_before is.heads is.ws in
    let at : verb_at line ≡ Some (Delete, words) = ap verb_at is.line_is in
    let end = deletion_ends is.ws [] is.end_is in
    let heads : ReadsHeads [] words is.heads (Ok end.0) = heads_again [] is.heads is.ws (Ok end.0) end.2 is.heads_are.once in
    let d = list_any is_dev is.heads in
    let p = list_any is_parent is.heads in
    let made : deletion_of d p ≡ Ok commands.Delete = rw (is.heads_are.has_dev, is.heads_are.has_parent) refl in
    behind line (Ok commands.Delete) (Delete, words) at (is.heads, Ok end.0, heads, sym (no_more (length line) d p end.0 end.1 ∙ made))

pub line_again : (line : List Word) (c : Command) → IsCommand line c → ReadsLine line (Ok c)
line_again line (commands.Replace change) is = replacement_again line change is
line_again line commands.Delete is = deletion_again line is

-- ---- a command or a fault

pub read_as : (line : List Word) (r : Result Command TcFault) (c : Command) → ReadsLine line r → (r ≡ Ok c) ↔ IsCommand line c
read_as line r c reads = (λ e. line_take line c (subst (ReadsLine line) e reads), λ is. line_one line r (Ok c) reads (line_again line c is))

pub line_fault : (line : List Word) (r : Result Command TcFault) → ReadsLine line r → IfErr r (HasFault line)
line_fault line (Ok c) reads = tt
line_fault line (Err f) reads = reads

pub one_command : (line : List Word) (c d : Command) → IsCommand line c → IsCommand line d → c ≡ d
one_command line c d a b = ok_is c d (line_one line (Ok c) (Ok d) (line_again line c a) (line_again line d b))

pub one_fault : (line : List Word) (f g : TcFault) → HasFault line f → HasFault line g → f ≡ g
one_fault line f g a b = (let e = line_one line (Err f) (Err g) a b in cc)

pub not_both : (line : List Word) (c : Command) (f : TcFault) → IsCommand line c → HasFault line f → ⊥
not_both line c f a b = (let e = line_one line (Ok c) (Err f) (line_again line c a) b in cc)

-- ---- a line with the heads of most lines

pub usual_line : (name : Word) (line rest : List Word) (result : Result Command TcFault) → line ≡ usual_heads name rest → ReadsOptions (length line) true true rest result → ReadsLine line result
usual_line name line rest result is options =
    let said : ReadsOptions (length (usual_heads name rest)) true true rest result = subst (λ (ws : List Word). ReadsOptions (length ws) true true rest result) is options in
    let behind_name : List Word = codes "root" ∷ codes "taprio" ∷ rest in
    let reads : ReadsHeads [] (codes "dev" ∷ name ∷ behind_name) (dev name ∷ root ∷ []) (Ok (Some rest)) = (refl, behind_name, refl, (refl, codes "taprio" ∷ rest, refl, refl)) in
    subst (λ (ws : List Word). ReadsLine ws result) (sym is) (dev name ∷ root ∷ [], Ok (Some rest), reads, said)
