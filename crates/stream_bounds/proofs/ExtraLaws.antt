-- What else is told of the streams of a class, one after another.
use Rattle.std.proofs.Common.{◌≡◌, ◌<◌, ℕ, zero, suc, List, [], ◌∷◌, ◌++◌, length, slice_get, Some, arith, subst}
use Rattle.std.proofs.lemmas.Option.{same_Some, slice_get_within}
use Rattle.stream_bounds.specs.declared.extras.Extra.{Extra}
use Rattle.traffic.specs.declared.table.Stream.{Stream}

-- what holds of each, and of one more, holds of all
pub one_more : (P : ℕ → Stream → Extra → Type 0) (streams : List Stream) (extras : List Extra) (e : Extra)
    → ((x : Stream) → slice_get streams (length extras) ≡ Some x → P (length extras) x e)
    → ((k : ℕ) (x : Stream) (f : Extra) → slice_get streams k ≡ Some x → slice_get extras k ≡ Some f → P k x f)
    → (k : ℕ) (x : Stream) (f : Extra) → slice_get streams k ≡ Some x → slice_get (extras ++ (e ∷ [])) k ≡ Some f → P k x f
one_more P streams [] e new old zero x f at has = subst (λ (g : Extra). P zero x g) (same_Some e f has) (new x at)
one_more P streams [] e new old (suc k) x f at has = absurd (let none : k < 0 = slice_get_within (let empty : List Extra = [] in empty) k f has in omega (arith, none))
one_more P [] (g ∷ extras) e new old k x f at has = absurd (let none : k < 0 = slice_get_within (let empty : List Stream = [] in empty) k x at in omega (arith, none))
one_more P (y ∷ streams) (g ∷ extras) e new old zero x f at has = old zero x f at has
one_more P (y ∷ streams) (g ∷ extras) e new old (suc k) x f at has =
    one_more (λ i. P (suc i)) streams extras e new (λ i z h a b. old (suc i) z h a b) k x f at has
