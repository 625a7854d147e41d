use Rattle.std.proofs.Common.{◌≡◌, ◌∷◌, [], length, ℕ, ap, arith}
use Rattle.infer.specs.Sites.{each_below, resolution_sites}
use Rattle.infer.proofs.ListLaws.{adds-none, adds-more, adds-same}
use Rattle.infer.proofs.resolution.add_resolutions_at.Goals as goal

pub loop-other-init : goal.loop-other-init
loop-other-init c = (adds-none (c.args.given.now ∷ c.args.partner.now ∷ []) c.args.found.now, λ given partner old. old)

pub loop-other-preserved : goal.loop-other-preserved
loop-other-preserved c = (
  adds-more (c.args.given.now ∷ c.args.partner.now ∷ []) c.loop-other.other (resolution_sites c.args.literal) c.args.found.now c.loop-other.found
      c.add_resolution.new.found
      c.loop-other.invariant.0 c.in_ok-add_resolution.ensures.adds,
  λ given partner old. c.in_ok-add_resolution.ensures.plain given partner (c.loop-other.invariant.1 given partner old),
)

pub returns-clause-adds : goal.returns-clause-adds
returns-clause-adds c =
    let all : c.loop-other.other ≡ length c.args.partner.now = grind arith in
    adds-same (c.args.given.now ∷ c.args.partner.now ∷ []) (each_below c.loop-other.other (resolution_sites c.args.literal))
    (each_below (length c.args.partner.now) (resolution_sites c.args.literal)) c.args.found.now c.loop-other.found
    (ap (λ (n : ℕ). each_below n (resolution_sites c.args.literal)) all) c.loop-other.invariant.0

pub returns-clause-plain : goal.returns-clause-plain
returns-clause-plain c = c.loop-other.invariant.1
