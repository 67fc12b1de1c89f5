use Rattle.stream_bounds.proofs.bounds_report.put_line.Goals as goal

pub returns : goal.returns
returns g c = λ read is. let said = c.read_tc.ensures read is in rw said at c.put_command.ensures
