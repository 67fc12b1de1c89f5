-- The walk of `taprio_port_arrive`: the port is lent for a lifetime that is made for the call of `arrive`, and lies at its pointer again when that is over.
use Rattle.port_c.proofs.Walks.{◌≡◌, ℕ, [], ◌∷◌, refl, ap, MutBor, proved, full_share, id⊢, Lft, ftrue, flft, fres, flent, WpFn, named, vunit, vptr, fact, tables, Body, ‵, raw, ◌⊛◌, some, later, prop, ◌$◌, ◌∵◌, !, qed, done, move, keep, drop, use1, use3, split, join, fsplit, fjoin, feq_i, feq_l, pick, await, regoal, rewrite, suffices, frame, group, lft_new, lft_end, enter, of_opd, unit_lit, addr, stop, no_more, and_then, returns, alloc_all, pass_all, free_all, look_at, get, through, sets, lands_as, unit, yes, lends_ref, ref_back, mem, Ptr, RawPtr, block_ptr, lies_at, in_a_block, rawptr_vals, rawptr_Tells, ptr_val, MutRef, mut_vals, mut_Tells, plain, nothing, only, heard, calls_at, Lasts, lasts, triple_of, framed, Stays, walk_of, says, stay_dropped, Goes-dropped, gave_ref, Goes-gave_ref, ends_at, ShrRef, shr_Tells, shr_vals}
use Rattle.port_c.specs.contracts.taprio_port_arrive as f
use Rattle.port_c.proofs.taprio_port_arrive.Statement.{statement}
use Rattle.port_c.proofs.taprio_port_arrive.Code as code
use Rattle.port_c.specs.contracts.arrive as g
use Rattle.port_c.proofs.arrive.Met.{met}
use Rattle.driven_port.specs.contracts.slot.PortSlot.{the_row as R}
use Rattle.driven_port.specs.contracts.values.CFrame.{the_row as F}
use Rattle.driven_port.specs.contracts.values.CAnswer.{the_row as T}
use Rattle.driven_port.specs.Taken.{frame_of}
use Rattle.driven_port.specs.Told.{arrives}
use Rattle.driven_port.specs.Slots.{at_slot}

abbrev stayed : Stays f.ended.signature.params f.ended.kept
stayed = (stay_dropped _ yes, (stay_dropped _ yes, (gave_ref (1 ∷ []) tt (plain (λ _. T)), tt)))

pub taprio_port_arrive_spec : {M : Type 1} → statement M
taprio_port_arrive_spec 𝓤 𝓛 𝓜 𝓡 wired =
    let c = f.clauses 𝓛 𝓜.mem 𝓡.returns in let W = walk_of 𝓛 f.ended stayed c in let 𝓣 = tables 𝓤 𝓛.H 𝓜 𝓡 𝓡.env in
    proved 𝓛 f.ended stayed c 𝓜 𝓡 (Goes-dropped 𝓛 2 (plain (λ _. RawPtr)) yes (λ κs x w. refl), (Goes-dropped 𝓛 2 (plain (λ κs. (ShrRef (named 0) κs.0 F))) yes (λ κs x w. refl), (Goes-gave_ref 𝓛 2 1 tt (plain (λ _. T)), tt)))
    f.Key.name code.function (code.unfolded 𝓤 𝓛.H 𝓜 𝓡 wired)
    (λ κs. (rawptr_vals, (shr_vals, (mut_vals, tt)))) (λ κs. (rawptr_Tells, (shr_Tells (named 0) κs.0 F, (mut_Tells (named 1) κs.1.0 T, tt)))) (λ κs qs bounds a h are.
    let s1 = a.1.0 in let s2 = a.1.1.0 in let new : R.Denot = (at_slot (arrives (frame_of s1.now)) h).1 in
    let y : Ptr → W.Ghost = λ p. ((κs, qs, bounds, (p, (s1, (s2, tt))), (rawptr_vals p, (shr_vals s1, (mut_vals s2, tt)))), h) in
    qed 𝓛 (((‵ (flft κs.0 qs.0) ⊛ ‵ (flft κs.1.0 qs.1.0) ⊛ ‵ ftrue) ⊛ (‵ (RawPtr.own_val a.0 (rawptr_vals a.0)) ⊛ ‵ ((ShrRef (named 0) κs.0 F).own_val s1 (shr_vals s1)) ⊛ ‵ ((MutRef (named 1) κs.1.0 T).own_val s2 (mut_vals s2)) ⊛ ‵ ftrue)) ∷ ‵ (lies_at R full_share a.0 h) ∷ []) ∵
    split ! $ split ! $ move ! (1 ∷ []) $ split ! $ move ! (3 ∷ []) $ split ! $ drop ! $ split ! $ move ! (1 ∷ []) $ split ! $ move ! (6 ∷ []) $
    -- [the port; the other parameters; nothing; the tokens; nothing]
    in_a_block ! a.0 (λ p. lies_at R full_share p h) (id⊢ 𝓤 _) (λ b o e.
    regoal ! (λ p. prop (WpFn 𝓤 𝓛.H 𝓣.C 𝓣.Λ code.function (ptr_val p ∷ vptr s1.ref_ptr.0 s1.ref_ptr.1 ∷ vptr s2.ref_ptr.0 s2.ref_ptr.1 ∷ []) (W.post (y p)))) e refl $
    enter ! _ _ _ _ _ $ alloc_all ! (λ l. pass_all ! refl ((tt, tt), ((tt, tt), ((tt, tt), tt))) $
    -- `port as *mut PortSlot`, `&mut *port`, `&mut *` of what is written
    sets ! (of_opd ! (get ! refl)) refl (tt, tt) $
    sets ! (addr ! (through ! refl (stop !))) refl (tt, tt) $
    sets ! (addr ! (through ! refl (stop !))) refl (tt, tt) $
    lft_new ! tt (λ α. let κ : Lft = α ∷ [] in move ! (1 ∷ 0 ∷ []) $
    use1 𝓛 (later (some (λ (δ : ℕ). ‵ ((MutRef (named 0) κ R).own_val (record { ref_ptr = (b, o); ghost_name = δ; now = h }) (vptr b o ∷ [])) ⊛ ‵ (flent κ (Body (mem R) b o δ))))) (lends_ref 𝓛 R (named 0) κ h b o) $ await ! tt $ pick ! (λ δ. split ! $
    -- [the loan; the right to have the port back; the token of α; the other parameters; nothing; the tokens; nothing]
    let G = triple_of 𝓛 g.signature (g.spec 𝓛 𝓜.mem 𝓡.returns) in
    let m : MutBor R.Denot = record { ref_ptr = (b, o); ghost_name = δ; now = h } in
    let z : G.Ghost = (((κ, (κs.0, (κs.1.0, tt))), (full_share, (qs.0, (qs.1.0, tt))), tt, (m, (s1, (s2, tt))), (mut_vals m, (shr_vals s1, (mut_vals s2, tt)))), tt) in
    nothing ! $ move ! (4 ∷ 0 ∷ []) $ fjoin ! $ move ! (5 ∷ 0 ∷ []) $ fjoin ! $ move ! (1 ∷ 0 ∷ []) $ fjoin ! $ nothing ! $ move ! (5 ∷ 0 ∷ []) $ join ! $ move ! (6 ∷ 0 ∷ []) $ join ! $ move ! (3 ∷ 0 ∷ []) $ join ! $ join ! $ nothing ! $ move ! (1 ∷ 0 ∷ []) $ join ! $
    use1 𝓛 (raw (G.pre z)) (id⊢ 𝓤 _) $
    calls_at ! (framed 𝓤 𝓛.H 𝓜 𝓣) G (met 𝓤 𝓛 𝓜 𝓡 (code.calls-port_c::arrive 𝓡.env wired)) z
    (and_then ! (get ! refl) (and_then ! (get ! refl) (and_then ! (get ! refl) (no_more !)))) (λ v.
    use1 𝓛 (later (some (λ (u : Unit {0}). ((‵ (flft κ full_share) ⊛ ‵ (flft κs.0 qs.0) ⊛ ‵ (flft κs.1.0 qs.1.0) ⊛ ‵ ftrue) ⊛ ‵ (unit.own_val u (v ∷ []))) ⊛
    some (λ (ws : Lasts g.ended z.0.0 z.0.3). ‵ (lasts g.ended z.0.0 z.0.3 ws) ⊛ (raw (fact 𝓤 (ws.0 ≡ new)) ⊛ raw (fact 𝓤 (ws.1.1.0 ≡ (at_slot (arrives (frame_of s1.now)) h).0))))))) (id⊢ 𝓤 _) $
    await ! tt $ pick ! (λ u. split ! $ split ! $ split ! $ lft_end ! tt $ move ! (2 ∷ []) $ feq_l ! (λ is_unit. lands_as ! (ap only is_unit) refl (tt, tt) $
    -- [α is over; the tokens; the last values, and what is said of them; the right to have the port back; ..]
    move ! (2 ∷ []) $ pick ! (λ ws. split ! $ move ! (1 ∷ []) $ split ! $ heard ! _ (λ is_new. heard ! _ (λ is_told. fsplit ! $ fsplit ! $
    rewrite ! 0 (λ (x : R.Denot). ‵ (fres δ (R.coded.code x))) is_new refl $
    move ! (3 ∷ 5 ∷ 0 ∷ []) $ use3 𝓛 (later (‵ ((mem R).own_at new b o))) (ref_back 𝓛 R κ δ new b o) $ await ! tt $
    move ! (1 ∷ []) $ drop ! $ move ! (1 ∷ []) $ fsplit ! $ drop ! $ fsplit ! $
    -- [what is written, given up; nothing; the port; the tokens; ..]
    sets ! (of_opd ! (unit_lit !)) refl (tt, tt) $
    returns ! (look_at ! 0 refl) $ free_all ! refl $ keep ! (0 ∷ 2 ∷ 3 ∷ []) $
    suffices ! _ (ends_at 𝓛 f.ended stayed c (y (block_ptr b o)) vunit tt (tt, (tt, (ws.1.1.0, tt))) (tt, (tt, (tt, tt)))) $
    nothing ! $ move ! (1 ∷ 0 ∷ []) $ fjoin ! $ nothing ! $ fjoin ! $ nothing ! $ fjoin ! $ feq_i ! _ (vunit ∷ []) _ refl $
    move ! (3 ∷ 1 ∷ 0 ∷ []) $ group ! 3 $ frame ! $ says ! is_told $ done !)))))))))))
