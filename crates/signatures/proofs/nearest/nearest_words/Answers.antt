use Rattle.std.proofs.Common.{ℕ, ◌+◌, ◌<◌, ◌≤◌, length, arith}
use Rattle.signatures.specs.Search.{left_over}
use Rattle.signatures.proofs.NearestLaws.{left_at_first, layers_at_first, left_after, layers_after, nearest_noted, some_layer, no_layer, nothing_noted}
use Rattle.signatures.proofs.nearest.nearest_words.Goals as goal

pub loop-alloc-init : goal.loop-alloc-init
loop-alloc-init g c =
    let empty = nothing_noted c.new-notes.result c.new-notes.ensures.empty in (
      layers_at_first c.args.forms.now c.args.lowers.now c.args.own.now c.requires c.new-notes.result c.first_layer.new.notes c.in_ok-layer.layer empty c.in_ok-layer.ensures,
      left_at_first c.args.forms.now c.args.lowers.now c.args.own.now c.requires c.new-notes.result c.first_layer.new.notes c.in_ok-layer.layer empty c.in_ok-layer.ensures,
    )

pub loop-alloc-smaller : goal.loop-alloc-smaller
loop-alloc-smaller g c =
    left_after c.args.forms.now c.args.lowers.now c.args.own.now c.requires c.loop-alloc.notes c.next_layer.new.notes c.loop-alloc.layer c.items-in-loop-alloc.result.now c.in_ok-next.next c.loop-alloc.distance c.items-in-loop-alloc.ensures c.loop-alloc.invariant.0 c.in_ok-next.ensures
    (some_layer c.loop-alloc.layer c.items.result.now c.is_empty.result c.is_empty.ensures c.loop-alloc-test.true c.items.ensures)

pub loop-alloc-preserved : goal.loop-alloc-preserved
loop-alloc-preserved g c = (
  layers_after c.args.forms.now c.args.lowers.now c.args.own.now c.requires c.loop-alloc.notes c.next_layer.new.notes c.loop-alloc.layer c.items-in-loop-alloc.result.now c.in_ok-next.next c.loop-alloc.distance c.items-in-loop-alloc.ensures
      c.loop-alloc.invariant.0 c.in_ok-next.ensures,
  within (left_over c.args.forms.now c.loop-alloc.notes c.loop-alloc.layer) (left_over c.args.forms.now c.next_layer.new.notes c.in_ok-next.next) c.loop-alloc.distance (length c.args.forms.now) c.loop-alloc.invariant.1
      (left_after c.args.forms.now c.args.lowers.now c.args.own.now c.requires c.loop-alloc.notes c.next_layer.new.notes c.loop-alloc.layer c.items-in-loop-alloc.result.now c.in_ok-next.next c.loop-alloc.distance c.items-in-loop-alloc.ensures
      c.loop-alloc.invariant.0 c.in_ok-next.ensures
      (some_layer c.loop-alloc.layer c.items.result.now c.is_empty.result c.is_empty.ensures c.loop-alloc-test.true c.items.ensures)),
)
  where
    within : (old new distance all : ℕ) → distance + old ≤ all + 1 → new < old → distance + 1 + new ≤ all + 1
    within old new distance all le lt = omega (arith, le, lt)

pub returns : goal.returns
returns g c =
    nearest_noted c.args.forms.now c.args.lowers.now c.args.own.now c.requires c.loop-alloc.notes c.loop-alloc.layer c.loop-alloc.distance
    (no_layer c.loop-alloc.layer c.items.result.now c.is_empty.result c.is_empty.ensures c.loop-alloc-test.false c.items.ensures) c.loop-alloc.invariant.0
