use Rattle.std.proofs.Common.{◌≡◌, ℕ, ◌∙◌, ap, refl, sym}
use Rattle.text.specs.WordsLeft.{words_left}
use Rattle.network.specs.Network.{way_taken}
use Rattle.network.proofs.TakeLaws.{wrong_on}
use Rattle.network.proofs.WordLaws.{hop_next, hops_done}
use Rattle.network.proofs.network_table.ways.take_way.Goals as goal

pub hops-preserved : goal.hops-preserved
hops-preserved g c = record {
  taken = c.hops.invariant.taken ∙ hop_next c.len-begin.result (c.hops.names.items, c.hops.ways.items) c.in-Some.word.now _ _ _ c.in-Some.ensures.word c.in-Ok.ensures.taken;
  begin = c.hops.invariant.begin;
  within = c.take_hop.ensures.within;
}

pub returns-in-Err-clause-taken : goal.returns-in-Err-clause-taken
returns-in-Err-clause-taken g c =
    wrong_on c.in-Err.fault _ _ _ _ _ c.in-Err.ensures.taken
    (ap (λ (n : ℕ). way_taken n (c.args.names.now.items, c.args.ways.now.items) (words_left c.args.words)) (sym c.hops.invariant.begin)
    ∙ (c.hops.invariant.taken ∙ hop_next c.len-begin.result (c.hops.names.items, c.hops.ways.items) c.in-Some.word.now _ _ _ c.in-Some.ensures.word refl))

pub returns-clause-taken : goal.returns-clause-taken
returns-clause-taken g c =
    ap (λ (n : ℕ). way_taken n (c.args.names.now.items, c.args.ways.now.items) (words_left c.args.words)) (sym c.hops.invariant.begin)
    ∙ (c.hops.invariant.taken ∙ hops_done c.len-begin.result (c.hops.names.items, c.hops.ways.items) _ c.in_default.ensures.word.0)
