use Rattle.std.proofs.Common.{Some, inl, subst}
use Rattle.jumping.specs.Words.{gates, Searched}
use Rattle.jumping.proofs.QuietLaws.{no_choice, searched_all, searched_one, some_choice}
use Rattle.jumping.proofs.jumping_gates.JumpingGates.quiet.Goals as goal
use Rattle.jumping.proofs.jumping_gates.JumpingGates.quiet.Goals.{in-Some, in-None}

-- what either search found, of the gates
searched_start : (c : goal.In-Some-found) → Searched (gates c.args.self.now.history) c.args.heads.now c.args.self.now.moment c.args.before (Some c.in-Some-found.start)
searched_start c =
    let now = c.args.self.now in
    let slots = c.self.inside.slots in
    let all = searched_all slots c.self.invariant.0 now c.self.view_is c.args.heads.now c.args.before c.match-lone_list.found in
    let one = searched_one slots c.self.invariant.0 now c.self.view_is c.args.heads.now c.args.before c.match-lone_list.found in
    subst (Searched (gates now.history) c.args.heads.now now.moment c.args.before) c.in-Some-found.is
    (elim c.match-lone_list.branch [
      | in-Some w ↦ one w.search_alone-found.result w.found-is w.in-Some.list.now w.in-Some.ensures w.moment.result w.moment.ensures w.search_alone-found.ensures.searched
      | in-None w ↦ all w.search_legs-found.result w.found-is w.search_legs-found.ensures.searched
    ])

pub returns-in-Some-found-clause-quiet : goal.returns-in-Some-found-clause-quiet
returns-in-Some-found-clause-quiet c =
    let now = c.args.self.now in
    no_choice now.history c.args.heads.now now.moment c.in-Some-found.start c.waits.ensures.count (searched_start c).2

pub returns-in-Some-found-clause-onward : goal.returns-in-Some-found-clause-onward
returns-in-Some-found-clause-onward c = λ below.
    inl (some_choice c.args.self.now.history c.args.heads.now c.in-Some-found.start c.waits.ensures.count (searched_start c).3)

pub returns-in-Some-found-clause-first : goal.returns-in-Some-found-clause-first
returns-in-Some-found-clause-first c = λ jumps below.
    some_choice c.args.self.now.history c.args.heads.now c.in-Some-found.start c.waits.ensures.count (searched_start c).3

pub returns-in-None-found-clause-quiet : goal.returns-in-None-found-clause-quiet
returns-in-None-found-clause-quiet c =
    let now = c.args.self.now in
    let slots = c.self.inside.slots in
    let all = searched_all slots c.self.invariant.0 now c.self.view_is c.args.heads.now c.args.before c.match-lone_list.found in
    let one = searched_one slots c.self.invariant.0 now c.self.view_is c.args.heads.now c.args.before c.match-lone_list.found in
    let searched = subst (Searched (gates now.history) c.args.heads.now now.moment c.args.before) c.in-None-found.is
    (elim c.match-lone_list.branch [
      | in-Some w ↦ one w.search_alone-found.result w.found-is w.in-Some.list.now w.in-Some.ensures w.moment.result w.moment.ensures w.search_alone-found.ensures.searched
      | in-None w ↦ all w.search_legs-found.result w.found-is w.search_legs-found.ensures.searched
    ]) in
    no_choice now.history c.args.heads.now now.moment c.args.before c.waits.ensures.count searched
