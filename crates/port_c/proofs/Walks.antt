-- What the walks of the exports share: the names that they cite.
pub use Rattle.std.proofs.Common.{◌≡◌, ℕ, List, [], ◌∷◌, refl, sym, ap, w32, w64, MutBor}
pub use Rattle.std.proofs.raw_atomic.Walks.{proved}
pub use base.Fraction.{full_share}
pub use base.Logic.{id⊢}
pub use base.Fml.{Lft, ftrue, flft, fres, fbor, flent, fsep}
pub use prog.Wp.{WpFn}
pub use mir.Syntax.{named}
pub use mir.Val.{Val, vunit, vptr, vint}
pub use contract.Monad.{fact}
pub use contract.Running.{tables}
pub use types.SemTy.{Body}
pub use types.Kit.{‵, raw, ◌⊛◌, some, later, prop, ◌$◌, ◌∵◌, !, qed, done, move, keep, drop, use1, use3, split, split3, join, fsplit, fjoin, feq_i, feq_l, pick, await, regoal, rewrite, suffices, frame, group}
pub use types.Tokens.{lft_new, lft_end}
pub use types.Run.{enter, of_opd, unit_lit, addr, stop, no_more, and_then, returns}
pub use types.ByLocal.{alloc_all, pass_all, free_all, look_at, get, through, sets, lands_as}
pub use denote.Builtin.{unit, u32, u64}
pub use denote.Exit.{yes}
pub use denote.Lend.{lends_ref, ref_back}
pub use denote.Memory.{mem}
pub use denote.Plain.{uint_vals, uint_Tells}
pub use denote.RawPtr.{Ptr, RawPtr, block_ptr, lies_at, in_a_block, rawptr_vals, rawptr_Tells, ptr_val}
pub use denote.Ref.{MutRef, ShrRef, mut_vals, mut_Tells, shr_vals, shr_Tells}
pub use denote.Signature.{plain}
pub use denote.Steps.{nothing, only, heard}
pub use denote.Triple.Call.{calls_at}
pub use denote.Triple.Clauses.{Lasts, lasts}
pub use denote.Triple.Spec.{triple_of}
pub use denote.Triple.Table.{framed}
pub use denote.Triple.Walked.{Stays, walk_of, says, stay_dropped, Goes-dropped, gave_ref, Goes-gave_ref, ends_at}
