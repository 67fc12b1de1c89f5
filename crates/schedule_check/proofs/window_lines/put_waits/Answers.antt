use Rattle.std.proofs.Common.{◌++◌, [], codes, refl}
use Rattle.std.proofs.lemmas.Result.{err_from_is_err_and}
use Rattle.text.proofs.Fronts.{sent_none, sent_more, sent_exit, sent_last}
use Rattle.schedule_check.specs.Words.{given_wait_text, longest_wait_of, wait_text, waits_text}
use Rattle.schedule_check.proofs.OpenLineLaws.{two_parts}
use Rattle.schedule_check.proofs.window_lines.put_waits.Goals as goal

pub returns-in_err-put_parts : goal.returns-in_err-put_parts
returns-in_err-put_parts g c =
    let p = err_from_is_err_and c.from_residual.result c.from_residual.ensures.1 in
    let plan = c.args.schedule.now in
    let wait = wait_text (longest_wait_of c.args.rate plan c.args.class c.args.longest) in
    let rest = given_wait_text c.args.rate plan c.args.class c.args.frame ++ codes "\n" in
    sent_exit _ (codes " wait " ++ (wait ++ [])) rest p.1 (sent_none _ (waits_text c.args.rate plan c.args.class c.args.frame c.args.longest)) (two_parts (codes " wait ") wait rest) (rw (c.wait_part.ensures, c.longest_wait_of-wait.ensures) at c.in_err-put_parts.ensures)

pub returns-in_err-put_given_wait : goal.returns-in_err-put_given_wait
returns-in_err-put_given_wait g c =
    let p = err_from_is_err_and c.from_residual-in_err-put_given_wait.result c.from_residual-in_err-put_given_wait.ensures.1 in
    let plan = c.args.schedule.now in
    let wait = wait_text (longest_wait_of c.args.rate plan c.args.class c.args.longest) in
    let given = given_wait_text c.args.rate plan c.args.class c.args.frame in
    let first = sent_more _ (codes " wait " ++ (wait ++ [])) (given ++ codes "\n") (sent_none _ (waits_text c.args.rate plan c.args.class c.args.frame c.args.longest)) (two_parts (codes " wait ") wait (given ++ codes "\n")) (rw (c.wait_part.ensures, c.longest_wait_of-wait.ensures) at c.in_ok-put_parts.ensures) in
    sent_exit _ given _ p.1 first refl c.in_err-put_given_wait.ensures

pub returns : goal.returns
returns g c =
    let plan = c.args.schedule.now in
    let wait = wait_text (longest_wait_of c.args.rate plan c.args.class c.args.longest) in
    let given = given_wait_text c.args.rate plan c.args.class c.args.frame in
    let first = sent_more _ (codes " wait " ++ (wait ++ [])) (given ++ codes "\n") (sent_none _ (waits_text c.args.rate plan c.args.class c.args.frame c.args.longest)) (two_parts (codes " wait ") wait (given ++ codes "\n")) (rw (c.wait_part.ensures, c.longest_wait_of-wait.ensures) at c.in_ok-put_parts.ensures) in
    sent_last _ _ (sent_more _ given _ first refl c.in_ok-put_given_wait.ensures) c.put.ensures
