use Rattle.std.proofs.Common.{refl, codes}
use Rattle.std.proofs.lemmas.Result.{err_from_is_err_and}
use Rattle.port_text.specs.Reports.{num_tc_text, map_text, ranges_text}
use Rattle.text.proofs.Fronts.{sent_none, sent_more, sent_exit, sent_last}
use Rattle.port_text.proofs.answer_text.reports.put_map_and_ranges.Goals as goal

pub returns-in_err-put_num_tc : goal.returns-in_err-put_num_tc
returns-in_err-put_num_tc g c =
    let p = err_from_is_err_and c.from_residual.result c.from_residual.ensures.1 in
    sent_exit _ (num_tc_text c.args.map.now.num_tc) _ p.1 (sent_none _ _) refl c.in_err-put_num_tc.ensures

pub returns-in_err-put_map : goal.returns-in_err-put_map
returns-in_err-put_map g c =
    let p = err_from_is_err_and c.from_residual-in_err-put_map.result c.from_residual-in_err-put_map.ensures.1 in
    sent_exit _ (map_text c.args.map.now) _ p.1 (sent_more _ (num_tc_text c.args.map.now.num_tc) _ (sent_none _ _) refl c.in_ok-put_num_tc.ensures) refl c.in_err-put_map.ensures

pub returns-in_err-put : goal.returns-in_err-put
returns-in_err-put g c =
    let p = err_from_is_err_and c.from_residual-in_err-put.result c.from_residual-in_err-put.ensures.1 in
    sent_exit _ (codes " queues") _ p.1 (sent_more _ (map_text c.args.map.now) _ (sent_more _ (num_tc_text c.args.map.now.num_tc) _ (sent_none _ _) refl c.in_ok-put_num_tc.ensures) refl c.in_ok-put_map.ensures) refl c.in_err-put.ensures

pub returns-in_err-put_ranges : goal.returns-in_err-put_ranges
returns-in_err-put_ranges g c =
    let p = err_from_is_err_and c.from_residual-in_err-put_ranges.result c.from_residual-in_err-put_ranges.ensures.1 in
    sent_exit _ (ranges_text c.args.queues.now) _ p.1 (sent_more _ (codes " queues") _ (sent_more _ (map_text c.args.map.now) _ (sent_more _ (num_tc_text c.args.map.now.num_tc) _ (sent_none _ _) refl c.in_ok-put_num_tc.ensures) refl c.in_ok-put_map.ensures) refl c.in_ok-put.ensures) refl c.in_err-put_ranges.ensures

pub returns : goal.returns
returns g c = sent_last _ _ (sent_more _ (ranges_text c.args.queues.now) _ (sent_more _ (codes " queues") _ (sent_more _ (map_text c.args.map.now) _ (sent_more _ (num_tc_text c.args.map.now.num_tc) _ (sent_none _ _) refl c.in_ok-put_num_tc.ensures) refl c.in_ok-put_map.ensures) refl c.in_ok-put.ensures) refl c.in_ok-put_ranges.ensures) c.put-2.ensures
