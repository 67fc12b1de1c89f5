use Rattle.schedule_check.proofs.window_lines.put_given_wait.Goals as goal

pub returns-in-Some : goal.returns-in-Some
returns-in-Some g c = rw c.in-Some.is (rw (c.wait_part.ensures, c.longest_wait.ensures, c.occupancy.ensures.value, c.from.ensures) at c.put_parts-in-Some.ensures)
