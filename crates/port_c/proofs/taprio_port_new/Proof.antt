-- The walk of `taprio_port_new`: what `PortSlot::new` answers is written where there was room.
use Rattle.port_c.proofs.Walks.{◌≡◌, [], ◌∷◌, refl, proved, full_share, id⊢, ftrue, flft, WpFn, named, vunit, vptr, fact, tables, ‵, raw, ◌⊛◌, some, later, prop, ◌$◌, ◌∵◌, !, qed, done, move, keep, drop, use1, split, join, fsplit, fjoin, feq_i, pick, await, regoal, rewrite, suffices, group, enter, of_opd, unit_lit, addr, stop, no_more, and_then, returns, alloc_all, pass_all, free_all, look_at, get, through, sets, lands_as, u32, w32, vint, uint_vals, uint_Tells, yes, Ptr, RawPtr, block_ptr, in_a_block, rawptr_vals, rawptr_Tells, ptr_val, MutRef, mut_vals, mut_Tells, plain, nothing, heard, calls_at, Lasts, lasts, triple_of, framed, Stays, walk_of, stay_dropped, Goes-dropped, gave_ref, Goes-gave_ref, ends_at}
use denote.RawPtr.{room_at}
use base.Logic.{emp}
use contract.Monad.{fact_i}
use types.Kit.{use0, use2}
use denote.Laws.{Is, shows}
use denote.Steps.{peeks}
use types.Run.{assigns, init}
use borrow.Table.OneValue.{part_in}
use denote.Memory.{part_at}
use Rattle.std.specs.Prelude.{◌⊎◌, IfSome, IfNone}
use Rattle.driven_port.specs.Opened.{open_refusal}
use Rattle.driven_port.specs.Slots.{opened_at, open_reason}
use Rattle.driven_port.specs.Told.{answer}
use Rattle.driven_port.specs.declared.OpenFault.TheVariants.{Memory}
use Rattle.driven_port.proofs.slot.PortSlot.TheLaws as slot
use Rattle.std.specs.contracts.alloc.Global.{the_row as A}
use Rattle.std.proofs.alloc.Global.TheLaws as heap
use Rattle.port_c.specs.contracts.taprio_port_new as f
use Rattle.port_c.proofs.taprio_port_new.Statement.{statement}
use Rattle.port_c.proofs.taprio_port_new.Code as code
use Rattle.driven_port.specs.contracts.slot.PortSlot.new as g
use Rattle.driven_port.proofs.slot.PortSlot.new.Met.{met}
use Rattle.driven_port.specs.contracts.slot.PortSlot.{the_row as R}
use Rattle.driven_port.specs.contracts.values.CAnswer.{the_row as T}

abbrev stayed : Stays f.ended.signature.params f.ended.kept
stayed = (stay_dropped _ yes, (stay_dropped _ yes, (stay_dropped _ yes, (stay_dropped _ yes, (stay_dropped _ yes, (gave_ref (0 ∷ []) tt (plain (λ _. T)), tt))))))

pub taprio_port_new_spec : {M : Type 1} → statement M
taprio_port_new_spec 𝓤 𝓛 𝓜 𝓡 wired =
    let c = f.clauses 𝓛 𝓜.mem 𝓡.returns in let W = walk_of 𝓛 f.ended stayed c in let 𝓣 = tables 𝓤 𝓛.H 𝓜 𝓡 𝓡.env in
    let number = Goes-dropped 𝓛 1 (plain (λ _. u32)) yes (λ κs x w. refl) in
    proved 𝓛 f.ended stayed c 𝓜 𝓡 (Goes-dropped 𝓛 1 (plain (λ _. A)) yes (λ κs x w. refl), (Goes-dropped 𝓛 1 (plain (λ _. RawPtr)) yes (λ κs x w. refl), (number, (number, (number, (Goes-gave_ref 𝓛 1 0 tt (plain (λ _. T)), tt))))))
    f.Key.name code.function (code.unfolded 𝓤 𝓛.H 𝓜 𝓡 wired)
    (λ κs. ((λ d. heap.lowers.lowered d ∷ []), (rawptr_vals, (uint_vals w32, (uint_vals w32, (uint_vals w32, (mut_vals, tt)))))))
    (λ κs. (heap.lowers.val_is, (rawptr_Tells, (uint_Tells w32, (uint_Tells w32, (uint_Tells w32, (mut_Tells (named 0) κs.0 T, tt))))))) (λ κs qs bounds a h are.
    let κ = κs.0 in let q = qs.0 in let s1 = a.0 in let s2 = a.1.1.0 in let s3 = a.1.1.1.0 in let s4 = a.1.1.1.1.0 in let r = a.1.1.1.1.1.0 in let ws₁ = heap.lowers.lowered s1 ∷ [] in
    let y : Ptr → W.Ghost = λ p. ((κs, qs, bounds, (s1, (p, (s2, (s3, (s4, (r, tt)))))), (ws₁, (rawptr_vals p, (uint_vals w32 s2, (uint_vals w32 s3, (uint_vals w32 s4, (mut_vals r, tt))))))), h) in
    qed 𝓛 (((‵ (flft κ q) ⊛ ‵ ftrue) ⊛ (‵ (A.own_val s1 ws₁) ⊛ ‵ (RawPtr.own_val a.1.0 (rawptr_vals a.1.0)) ⊛ (‵ (u32.own_val s2 (uint_vals w32 s2)) ⊛ ‵ (u32.own_val s3 (uint_vals w32 s3)) ⊛ ‵ (u32.own_val s4 (uint_vals w32 s4)) ⊛ ‵ ((MutRef (named 0) κ T).own_val r (mut_vals r)) ⊛ ‵ ftrue))) ∷ ‵ (room_at R a.1.0) ∷ []) ∵
    split ! $ move ! (1 ∷ []) $ split ! $ move ! (1 ∷ []) $ split ! $ drop ! $ move ! (1 ∷ 0 ∷ []) $ join ! $ move ! (1 ∷ 0 ∷ []) $ join ! $ nothing ! $ move ! (1 ∷ 0 ∷ []) $ join ! $ move ! (1 ∷ []) $
    -- [the room; what `PortSlot::new` asks]
    in_a_block ! a.1.0 (λ p. room_at R p) (id⊢ 𝓤 _) (λ b o e.
    regoal ! (λ p. prop (WpFn 𝓤 𝓛.H 𝓣.C 𝓣.Λ code.function (heap.lowers.lowered s1 ∷ ptr_val p ∷ vint w32 s2 ∷ vint w32 s3 ∷ vint w32 s4 ∷ vptr r.ref_ptr.0 r.ref_ptr.1 ∷ []) (W.post (y p)))) e refl $
    enter ! _ _ _ _ _ $ alloc_all ! (λ l. pass_all ! refl ((tt, ((tt, tt), tt)), ((tt, tt), ((tt, record { fits = are.1.1.0.1 }), ((tt, record { fits = are.1.1.1.0.1 }), ((tt, record { fits = are.1.1.1.1.0.1 }), ((tt, tt), tt)))))) $
    -- `port as *mut PortSlot`, `&mut *told`
    sets ! (of_opd ! (get ! refl)) refl (tt, tt) $
    sets ! (addr ! (through ! refl (stop !))) refl (tt, tt) $
    let G = triple_of 𝓛 g.signature (g.spec 𝓛 𝓜.mem 𝓡.returns) in
    let z : G.Ghost = (((κ, tt), (q, tt), tt, (s1, (s2, (s3, (s4, (r, tt))))), (ws₁, (uint_vals w32 s2, (uint_vals w32 s3, (uint_vals w32 s4, (mut_vals r, tt)))))), tt) in
    move ! (1 ∷ []) $ use1 𝓛 (raw (G.pre z)) (id⊢ 𝓤 _) $
    calls_at ! (framed 𝓤 𝓛.H 𝓜 𝓣) G (met 𝓤 𝓛 𝓜 𝓡 (code.calls-driven_port::slot::PortSlot::new 𝓡.env wired)) z
    (and_then ! (get ! refl) (and_then ! (get ! refl) (and_then ! (get ! refl) (and_then ! (get ! refl) (and_then ! (get ! refl) (no_more !)))))) (λ v.
    use1 𝓛 (later (some (λ (d : R.Denot). ((‵ (flft κ q) ⊛ ‵ ftrue) ⊛ ‵ (R.own_val d (v ∷ []))) ⊛
    some (λ (ws : Lasts g.ended z.0.0 z.0.3). ‵ (lasts g.ended z.0.0 z.0.3 ws) ⊛ (raw (fact 𝓤 (d ≡ opened_at s2 s3 s4 ws.1.1.1.1.0.kind)) ⊛
    (raw (fact 𝓤 (IfSome (open_refusal s2 s3 s4) (λ fault. ws.1.1.1.1.0 ≡ record (answer 10) { reason = open_reason fault }))) ⊛
    raw (fact 𝓤 (IfNone (open_refusal s2 s3 s4) ((ws.1.1.1.1.0 ≡ answer 9) ⊎ (ws.1.1.1.1.0 ≡ record (answer 10) { reason = open_reason Memory })))))))))) (id⊢ 𝓤 _) $
    await ! tt $ pick ! (λ d. split ! $ split ! $ move ! (2 ∷ []) $ pick ! (λ ws. split ! $ move ! (1 ∷ []) $ split ! $ heard ! _ (λ is_port. split ! $ heard ! _ (λ is_refused. heard ! _ (λ is_memory.
    -- [the last values; the token; the place's value; the room]
    move ! (2 ∷ []) $ peeks ! R (Is R) (shows 𝓛 R) d (v ∷ []) (λ is. let good = (((slot.the_row_laws).lawful 𝓛).typed d (v ∷ []) is).0 in
    lands_as ! refl refl good $
    assigns ! (of_opd ! (get ! refl)) (through ! refl (stop !)) (init ! 3 refl good) $
    -- [what the value owns; the last values; the tokens; the value at the pointer]
    sets ! (of_opd ! (unit_lit !)) refl (tt, tt) $
    returns ! (look_at ! 0 refl) $ free_all ! refl $ keep ! (3 ∷ 0 ∷ 1 ∷ 2 ∷ []) $
    use2 𝓛 (‵ (part_at R full_share d b o)) (part_in 𝓛 R refl full_share d b o v) $ rewrite ! 0 (λ (x : R.Denot). ‵ (part_at R full_share x b o)) is_port refl $
    move ! (1 ∷ []) $ fsplit ! $ drop ! $ fsplit ! $ drop ! $ fsplit ! $ drop ! $ fsplit ! $ drop ! $ fsplit ! $ keep ! (0 ∷ 2 ∷ 3 ∷ []) $
    suffices ! _ (ends_at 𝓛 f.ended stayed c (y (block_ptr b o)) vunit tt (tt, (tt, (tt, (tt, (tt, (ws.1.1.1.1.0, tt)))))) (tt, (tt, (tt, (tt, (tt, (tt, tt))))))) $
    nothing ! $ move ! (1 ∷ 0 ∷ []) $ fjoin ! $ nothing ! $ fjoin ! $ nothing ! $ fjoin ! $ nothing ! $ fjoin ! $ nothing ! $ fjoin ! $ nothing ! $ fjoin ! $ feq_i ! _ (vunit ∷ []) _ refl $
    use0 𝓛 (raw (fact 𝓤 _)) (fact_i 𝓤 _ (emp 𝓤) is_memory) $ use0 𝓛 (raw (fact 𝓤 _)) (fact_i 𝓤 _ (emp 𝓤) is_refused) $ join ! $
    move ! (4 ∷ 2 ∷ 1 ∷ 3 ∷ 0 ∷ []) $ group ! 3 $ done !))))))))))
