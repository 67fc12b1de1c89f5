use Rattle.program.proofs.replay_call.replay_opened.Goals as goal
