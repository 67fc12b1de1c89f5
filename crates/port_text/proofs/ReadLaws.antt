-- Every list of words is read to a command or to a fault.
use Rattle.std.proofs.Common.{◌≡◌, ℕ, zero, suc, ◌-◌, ◌≤◌, ◌<◌, Bool, true, false, List, [], ◌∷◌, ◌++◌, length, None, Some, Result, Ok, Err, refl, ap, codes, arith, inl, inr}
use Rattle.std.specs.Prelude.{◌⊎◌, MatchOption, MatchResult}
use Rattle.std.specs.declared.option.Option.{Option}
use Rattle.std.specs.List.{list_any}
use Rattle.std.specs.Str.{bytes_eq}
use Rattle.std.proofs.lemmas.List.{length-append}
use Rattle.port_text.specs.Words.{Command, Verb, Replace, Delete, TcFault, Word, Item, Options, no_options, with_item, item_at, Reads, given_by, Head, dev, root, parent, handle, is_dev, is_parent, head_at, ReadsHeads, verb_at, replacement_of, ReadsOptions, deletion_before, ReadsRest, ReadsLine, HasFault, head_words, IsCommand, IsReader}
use Rattle.port_text.specs.declared.tc_reader.fault.TcFault.TheVariants as faults
use Rattle.port_text.proofs.HeadsLemmas.{ends_fault, ends_taprio}
use Rattle.port_text.proofs.GrammarLemmas.{item_take}
use Rattle.port_text.proofs.HeadsGrammar.{End, head_take}
use Rattle.port_text.proofs.LineLaws.{line_take, one_command, one_fault, not_both}

-- ---- options

abbrev OptionsRead : Options → ℕ → List Word → Type 0
OptionsRead g count ws = (items : List Item) × (last : Option TcFault) × Reads g count ws items last

rest_shorter : (values rest ws : List Word) (n : ℕ) → ws ≡ values ++ rest → length ws ≤ n → length rest ≤ n
rest_shorter values rest ws n e le = let whole = ap length e in let parts = length-append values rest in omega (arith, whole, parts)

options_read : (n : ℕ) (g : Options) (count : ℕ) (ws : List Word) → length ws ≤ n → OptionsRead g count ws
options_read n g count [] le = ([], None, refl)
options_read zero g count (w ∷ ws) le = absurd (omega arith)
options_read (suc n) g count (w ∷ ws) le = by_item (λ i rest few. options_read n (with_item g i) count rest few) (item_at g (count - length (w ∷ ws)) w ws) refl
  where
    by_item : ((i : Item) (rest : List Word) → length rest ≤ n → OptionsRead (with_item g i) count rest) → (r : Result (Item × List Word) TcFault) → item_at g (count - length (w ∷ ws)) w ws ≡ r → OptionsRead g count (w ∷ ws)
    by_item after (Err f) is = ([], Some f, (f, refl, is))
    by_item after (Ok (i, rest)) is =
        let t = item_take g (count - length (w ∷ ws)) w ws i rest is in
        let few : length ws ≤ n = omega arith in
        let more = after i rest (rest_shorter t.2 rest ws n t.3 few) in
        (i ∷ more.0, more.1, (rest, is, more.2))

-- ---- heads

abbrev HeadsRead : List Head → List Word → Type 0
HeadsRead before ws = (heads : List Head) × (end : End) × ReadsHeads before ws heads end

head_shorter : (h : Head) (rest : List Word) → length rest < length (head_words h ++ rest)
head_shorter (dev w) rest = omega arith
head_shorter root rest = omega arith
head_shorter (parent w) rest = omega arith
head_shorter (handle w) rest = omega arith

heads_read : (n : ℕ) (before : List Head) (ws : List Word) → length ws ≤ n → HeadsRead before ws
heads_read n before [] le = ([], Ok None, refl)
heads_read zero before (w ∷ ws) le = absurd (omega arith)
heads_read (suc n) before (w ∷ ws) le = by_word (λ h rest few. heads_read n (before ++ h ∷ []) rest few) (bytes_eq w (codes "taprio")) refl
  where
    by_head : ((h : Head) (rest : List Word) → length rest ≤ n → HeadsRead (before ++ h ∷ []) rest) → bytes_eq w (codes "taprio") ≡ false → (r : Result (Head × List Word) TcFault) → head_at before w ws ≡ r → HeadsRead before (w ∷ ws)
    by_head after other (Err f) is = ([], Err f, ends_fault before w ws f other is)
    by_head after other (Ok (h, rest)) is =
        let t = head_take before w ws h rest is in
        let less = head_shorter h rest in
        let few : length rest ≤ n = omega (arith, ap length t.0) in
        let more = after h rest few in
        (h ∷ more.0, more.1, (other, rest, is, more.2))

    by_word : ((h : Head) (rest : List Word) → length rest ≤ n → HeadsRead (before ++ h ∷ []) rest) → (b : Bool) → bytes_eq w (codes "taprio") ≡ b → HeadsRead before (w ∷ ws)
    by_word after true is = ([], Ok (Some ws), ends_taprio before w ws is)
    by_word after false is = by_head after is (head_at before w ws) refl

-- ---- lines

options_end : (count : ℕ) (d p : Bool) (ws : List Word) → OptionsRead no_options count ws → (r : Result Command TcFault) × ReadsOptions count d p ws r
options_end count d p ws (items, None, reads) = (replacement_of d p (given_by items), (items, None, reads, refl))
options_end count d p ws (items, Some f, reads) = (Err f, (items, Some f, reads, refl))

rest_reads : (count : ℕ) (v : Verb) (heads : List Head) (end : End) → (r : Result Command TcFault) × ReadsRest count v heads end r
rest_reads count v heads (Err f) = (Err f, refl)
rest_reads count Replace heads (Ok None) = (Err faults.NotTaprio, refl)
rest_reads count Replace heads (Ok (Some ws)) = options_end count (list_any is_dev heads) (list_any is_parent heads) ws (options_read (length ws) no_options count ws (omega arith))
rest_reads count Delete heads (Ok rest) = (deletion_before count (list_any is_dev heads) (list_any is_parent heads) rest, refl)

line_read : (line : List Word) → (r : Result Command TcFault) × ReadsLine line r
line_read line = by_verb (verb_at line)
  where
    by_verb : (o : Option (Verb × List Word)) → (r : Result Command TcFault) × MatchOption o (r ≡ Err faults.NotTaprio)
        (λ x. (heads : List Head) × (end : End) × ReadsHeads [] x.1 heads end × ReadsRest (length line) x.0 heads end r)
    by_verb None = (Err faults.NotTaprio, refl)
    by_verb (Some (v, ws)) =
        let heads = heads_read (length ws) [] ws (omega arith) in
        let end = rest_reads (length line) v heads.0 heads.1 in
        (end.0, (heads.0, heads.1, heads.2, end.1))

-- ---- readers

answered : (line : List Word) (r : Result Command TcFault) → ReadsLine line r → MatchResult r (IsCommand line) (HasFault line)
answered line (Ok c) reads = line_take line c reads
answered line (Err f) reads = reads

pub command_or_fault : (line : List Word) → ((c : Command) × IsCommand line c) ⊎ ((f : TcFault) × HasFault line f)
command_or_fault line = by_result (line_read line).0 (answered line (line_read line).0 (line_read line).1)
  where
    by_result : (r : Result Command TcFault) → MatchResult r (IsCommand line) (HasFault line) → ((c : Command) × IsCommand line c) ⊎ ((f : TcFault) × HasFault line f)
    by_result (Ok c) is = inl (c, is)
    by_result (Err f) is = inr (f, is)

pub a_reader : (read : List Word → Result Command TcFault) × IsReader read
a_reader = (λ line. (line_read line).0, λ line. answered line (line_read line).0 (line_read line).1)

same_reading : (line : List Word) (r s : Result Command TcFault) → MatchResult r (IsCommand line) (HasFault line) → MatchResult s (IsCommand line) (HasFault line) → r ≡ s
same_reading line (Ok c) (Ok d) a b = ap Ok (one_command line c d a b)
same_reading line (Ok c) (Err f) a b = absurd (not_both line c f a b)
same_reading line (Err f) (Ok c) a b = absurd (not_both line c f b a)
same_reading line (Err f) (Err g) a b = ap Err (one_fault line f g a b)

pub same_readers : (read other : List Word → Result Command TcFault) → IsReader read → IsReader other → (line : List Word) → read line ≡ other line
same_readers read other a b line = same_reading line (read line) (other line) (a line) (b line)
