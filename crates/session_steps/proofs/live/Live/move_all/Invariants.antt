-- What the tracker has goes over in the session.
use Rattle.session_steps.proofs.live.Live.move_all.Given as goal

abbrev pub ghost-refuse_move : goal.ghost-refuse_move
ghost-refuse_move g a = g.m

abbrev pub ghost-move_all : goal.ghost-move_all
ghost-move_all g a = g.m
