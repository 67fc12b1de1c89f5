use Rattle.std.proofs.Common.{◌≡◌, length, rules}
use Rattle.network.specs.Reads.{seen}
use Rattle.network.proofs.TakeLaws.{same_taken, wayless_line}
use Rattle.network.proofs.network_table.takes.take_stream.Goals as goal

pub returns-in-None : goal.returns-in-None
returns-in-None g c =
    let begin : c.len-begin.result ≡ length c.args.network.now.ways.items = search rules in
    same_taken c.add_stream.result _ _ _ c.add_stream.ensures
    (wayless_line c.args.number c.len-begin.result c.args.line.now c.front_at.result.now c.via_in-via.result c.in-Ok.stream (seen c.args.network.now) c.read_stream.result
    begin c.via_in-via.ensures.place c.front_at.ensures c.read_stream.ensures c.in-Ok.is c.in-None.ensures)
