use Rattle.std.proofs.Common.{◌≡◌, map, take}
use Rattle.kif_tree.specs.Subst.{filling_of}
use Rattle.calculus.specs.Rules.{bind_frame}
use Rattle.calculus_programs.proofs.opening.fill_frames.Given as goal

abbrev pub invariant-loop-frame : goal.invariant-loop-frame
invariant-loop-frame l = l.filled ≡ map (bind_frame (filling_of l.unnamed l.pairs)) (take l.frame-index l.frames)
