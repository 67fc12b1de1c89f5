use Rattle.std.proofs.Common.{◌<◌, ◌≤◌, ◌/◌, ap, subst, arith}
use Rattle.schedule_check.specs.Words.{Stay, IsOpenStay}
use Rattle.schedule_check.proofs.WindowLaws.{frame_fits, fits_few, can_start}
use Rattle.schedule_check.proofs.windows.longest_within.Goals as goal

pub returns-else-octets-lt84 : goal.returns-else-octets-lt84
returns-else-octets-lt84 c = λ mask class stay.
    let longest = subst (λ (s : Stay). IsOpenStay mask class s) c.in-Lasts.is stay in
    let ps = c.ps_per_octet.ensures.value in
    let above : 0 < c.args.rate = let least = c.ps_per_octet.ensures.within.0 in omega arith in
    let same = ap (λ n. c.in-Lasts.lasts / n) ps in
    let room : 84 ≤ c.in-Lasts.lasts / c.args.rate = let more = c.if-octets-lt84.false in omega arith in (
      can_start c.args.rate mask class c.in-Lasts.lasts _ longest (frame_fits c.args.rate c.in-Lasts.lasts above _ room (omega arith)),
      λ len start. let few = fits_few c.args.rate c.in-Lasts.lasts above len (longest.most start.0 _ start.1) in omega arith,
    )
