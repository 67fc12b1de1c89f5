-- The walk of `taprio_port_free`: the port is lent for a lifetime that is made for the call of `free`, and lies at its pointer again when that is over.
use Rattle.port_c.proofs.Walks.{◌≡◌, ℕ, [], ◌∷◌, refl, ap, MutBor, proved, full_share, id⊢, Lft, ftrue, flft, fres, flent, WpFn, named, vunit, vptr, fact, tables, Body, ‵, raw, ◌⊛◌, some, later, prop, ◌$◌, ◌∵◌, !, qed, done, move, keep, drop, use1, use3, split, join, fsplit, fjoin, feq_i, feq_l, pick, await, regoal, rewrite, suffices, group, lft_new, lft_end, enter, of_opd, unit_lit, addr, stop, no_more, and_then, returns, alloc_all, pass_all, free_all, look_at, get, through, sets, lands_as, unit, yes, lends_ref, ref_back, mem, Ptr, RawPtr, block_ptr, lies_at, in_a_block, rawptr_vals, rawptr_Tells, MutRef, mut_vals, plain, nothing, only, heard, calls_at, Lasts, lasts, triple_of, framed, Stays, walk_of, stay_dropped, Goes-dropped, ends_at}
use Rattle.std.specs.Prelude.{None}
use Rattle.port_c.specs.contracts.taprio_port_free as f
use Rattle.port_c.proofs.taprio_port_free.Statement.{statement}
use Rattle.port_c.proofs.taprio_port_free.Code as code
use Rattle.port_c.specs.contracts.free as g
use Rattle.port_c.proofs.free.Met.{met}
use Rattle.driven_port.specs.contracts.slot.PortSlot.{the_row as R}

abbrev stayed : Stays f.ended.signature.params f.ended.kept
stayed = (stay_dropped _ yes, tt)

pub taprio_port_free_spec : {M : Type 1} → statement M
taprio_port_free_spec 𝓤 𝓛 𝓜 𝓡 wired =
    let c = f.clauses 𝓛 𝓜.mem 𝓡.returns in let W = walk_of 𝓛 f.ended stayed c in let 𝓣 = tables 𝓤 𝓛.H 𝓜 𝓡 𝓡.env in
    proved 𝓛 f.ended stayed c 𝓜 𝓡 (Goes-dropped 𝓛 0 (plain (λ _. RawPtr)) yes (λ κs x w. refl), tt)
    f.Key.name code.function (code.unfolded 𝓤 𝓛.H 𝓜 𝓡 wired)
    (λ κs. (rawptr_vals, tt)) (λ κs. (rawptr_Tells, tt)) (λ κs qs bounds a h are.
    let y : Ptr → W.Ghost = λ p. ((κs, qs, bounds, (p, tt), (rawptr_vals p, tt)), h) in
    qed 𝓛 ((‵ ftrue ⊛ (‵ (RawPtr.own_val a.0 (rawptr_vals a.0)) ⊛ ‵ ftrue)) ∷ ‵ (lies_at R full_share a.0 h) ∷ []) ∵ drop ! $
    in_a_block ! a.0 (λ p. lies_at R full_share p h) (id⊢ 𝓤 _) (λ b o e.
    regoal ! (λ p. prop (WpFn 𝓤 𝓛.H 𝓣.C 𝓣.Λ code.function (rawptr_vals p) (W.post (y p)))) e refl $
    enter ! _ _ _ _ _ $ alloc_all ! (λ l. pass_all ! refl ((tt, tt), tt) $
    -- `port as *mut PortSlot`, `&mut *port`
    sets ! (of_opd ! (get ! refl)) refl (tt, tt) $
    sets ! (addr ! (through ! refl (stop !))) refl (tt, tt) $
    lft_new ! tt (λ α. let κ : Lft = α ∷ [] in move ! (1 ∷ 0 ∷ []) $
    use1 𝓛 (later (some (λ (δ : ℕ). ‵ ((MutRef (named 0) κ R).own_val (record { ref_ptr = (b, o); ghost_name = δ; now = h }) (vptr b o ∷ [])) ⊛ ‵ (flent κ (Body (mem R) b o δ))))) (lends_ref 𝓛 R (named 0) κ h b o) $ await ! tt $ pick ! (λ δ. split ! $
    -- [the loan; the right to have the port back; the token of α]
    let G = triple_of 𝓛 g.signature (g.spec 𝓛 𝓜.mem 𝓡.returns) in
    let m : MutBor R.Denot = record { ref_ptr = (b, o); ghost_name = δ; now = h } in
    let z : G.Ghost = (((κ, tt), (full_share, tt), tt, (m, tt), (mut_vals m, tt)), tt) in
    nothing ! $ move ! (1 ∷ 0 ∷ []) $ fjoin ! $ nothing ! $ move ! (3 ∷ 0 ∷ []) $ join ! $ join ! $ nothing ! $ move ! (1 ∷ 0 ∷ []) $ join ! $
    use1 𝓛 (raw (G.pre z)) (id⊢ 𝓤 _) $
    calls_at ! (framed 𝓤 𝓛.H 𝓜 𝓣) G (met 𝓤 𝓛 𝓜 𝓡 (code.calls-port_c::free 𝓡.env wired)) z
    (and_then ! (get ! refl) (no_more !)) (λ v.
    use1 𝓛 (later (some (λ (u : Unit {0}). ((‵ (flft κ full_share) ⊛ ‵ ftrue) ⊛ ‵ (unit.own_val u (v ∷ []))) ⊛
    some (λ (ws : Lasts g.ended z.0.0 z.0.3). ‵ (lasts g.ended z.0.0 z.0.3 ws) ⊛ raw (fact 𝓤 (ws.0 ≡ None)))))) (id⊢ 𝓤 _) $
    await ! tt $ pick ! (λ u. split ! $ split ! $ split ! $ lft_end ! tt $ move ! (2 ∷ []) $ feq_l ! (λ is_unit. lands_as ! (ap only is_unit) refl (tt, tt) $
    -- [α is over; nothing; the last value, and what is said of it; the right to have the port back]
    move ! (2 ∷ []) $ pick ! (λ ws. split ! $ move ! (1 ∷ []) $ heard ! _ (λ is_new. fsplit ! $ fsplit ! $
    rewrite ! 0 (λ (x : R.Denot). ‵ (fres δ (R.coded.code x))) is_new refl $
    move ! (3 ∷ 5 ∷ 0 ∷ []) $ use3 𝓛 (later (‵ ((mem R).own_at None b o))) (ref_back 𝓛 R κ δ None b o) $ await ! tt $
    sets ! (of_opd ! (unit_lit !)) refl (tt, tt) $
    returns ! (look_at ! 0 refl) $ free_all ! refl $ keep ! (0 ∷ []) $
    suffices ! _ (ends_at 𝓛 f.ended stayed c (y (block_ptr b o)) vunit tt (tt, tt) (tt, tt)) $
    feq_i ! _ (vunit ∷ []) _ refl $ nothing ! $ nothing ! $ fjoin ! $ nothing ! $ group ! 3 $ done !))))))))))
