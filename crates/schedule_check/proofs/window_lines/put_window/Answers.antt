use Rattle.schedule_check.proofs.window_lines.put_window.Goals as goal

pub returns : goal.returns
returns g c = rw (c.time_part.ensures, c.time_part-2.ensures, c.frame_part.ensures, c.from.ensures) at c.put_parts.ensures
