-- The classes that a text names, one octet after another.
use Rattle.std.proofs.Common.{◌≡◌, ◌<◌, ◌≤◌, ℕ, ◌+◌, Bool, not, cond, List, length, drop, get_or, Option, Some, None, sym, ap, ◌∙◌}
use Rattle.std.proofs.lemmas.List.{at_drop_all, at_drop_more}
use Rattle.stream_bounds.specs.BoundsEnd.{named_on, next_named, read_classes}

module _ (named : List Bool) (behind : Bool) (text : List ℕ) (i : ℕ) (all : Option (List Bool)) where
  -- one octet more
  one_more : (next : Option (List Bool)) → i < length text → next_named named behind (get_or text i 0) ≡ next
      → read_classes named behind (drop i text) ≡ named_on (λ more. read_classes more (not behind) (drop (i + 1) text)) next
  unfolding read_classes
  one_more next less is =
      at_drop_more (read_classes named behind) text i 0 less ∙ ap (named_on (λ more. read_classes more (not behind) (drop (i + 1) text))) is

  pub names_more : (more : List Bool) → i < length text → next_named named behind (get_or text i 0) ≡ Some more
      → read_classes named behind (drop i text) ≡ all → read_classes more (not behind) (drop (i + 1) text) ≡ all
  names_more more less is so_far = sym (one_more (Some more) less is) ∙ so_far

  pub names_none : i < length text → next_named named behind (get_or text i 0) ≡ None → read_classes named behind (drop i text) ≡ all → None ≡ all
  names_none less is so_far = sym (one_more None less is) ∙ so_far

  -- the end
  pub all_named : length text ≤ i → read_classes named behind (drop i text) ≡ all → cond behind (Some named) None ≡ all
  unfolding read_classes
  all_named over so_far = sym (at_drop_all (read_classes named behind) text i over) ∙ so_far
