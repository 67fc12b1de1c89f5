use Rattle.std.proofs.Common.{◌<◌, ℕ, [], sym, subst, arith}
use Rattle.std.specs.Prelude.{IfErr, IfOk}
use Rattle.shared_bounds.specs.Busy.{AreFound, IsUnseen}
use Rattle.shared_bounds.specs.Traffic.{arrivals_of}
use Rattle.shared_bounds.proofs.TrafficLaws.{arrivals_at, some_talkers}
use Rattle.shared_bounds.specs.declared.ClassTraffic.{ClassTraffic}
use Rattle.shared_bounds.specs.declared.place.SharedClass.{SharedClass}
use Rattle.shared_bounds.proofs.place.SharedClass.bounds_by_pitch.Goals as goal

abbrev none : ClassTraffic
none = record { need = 0; talkers = record { ref_ptr = (0, 0); now = [] }; bounds = record { wait = 0; most = 0 } }

pub bounds_within-requires-clause-some : goal.bounds_within-requires-clause-some
bounds_within-requires-clause-some g c =
    let here = c.with_pitch-here.result in
    let all = c.with_pitch-here.ensures.place.all in
    let class = c.with_pitch-here.ensures.place.class in
    some_talkers here.traffic.now here.class none (omega (arith, all, class))
    (subst (λ (x : SharedClass). 0 < arrivals_of x.traffic.now x.class 0) (sym c.with_pitch-here.ensures.same) c.requires.some)

pub returns-clause-found : goal.returns-clause-found
returns-clause-found g c =
    let here = c.with_pitch-here.result in
    let all = c.with_pitch-here.ensures.place.all in
    let class = c.with_pitch-here.ensures.place.class in
    subst (λ (x : SharedClass). IfOk c.bounds_within.result (AreFound x (arrivals_of x.traffic.now x.class))) c.with_pitch-here.ensures.same
    (subst (λ (f : ℕ → ℕ). IfOk c.bounds_within.result (AreFound here f))
    (sym (arrivals_at here.traffic.now here.class none (omega (arith, all, class)))) c.bounds_within.ensures.found)

pub returns-clause-why : goal.returns-clause-why
returns-clause-why g c =
    let here = c.with_pitch-here.result in
    let all = c.with_pitch-here.ensures.place.all in
    let class = c.with_pitch-here.ensures.place.class in
    subst (λ (x : SharedClass). IfErr c.bounds_within.result (IsUnseen x (arrivals_of x.traffic.now x.class) c.args.most))
    c.with_pitch-here.ensures.same
    (subst (λ (f : ℕ → ℕ). IfErr c.bounds_within.result (IsUnseen here f c.args.most))
    (sym (arrivals_at here.traffic.now here.class none (omega (arith, all, class)))) c.bounds_within.ensures.why)
