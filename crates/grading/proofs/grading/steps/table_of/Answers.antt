use Rattle.std.proofs.Common.{◌≡◌, ◌+◌, ◌*◌, ◌≤◌, length, replicate, ap, ◌∙◌, arith, rules}
use Rattle.wire.specs.Slots.{slot_bytes}
use Rattle.wire.proofs.Slotted.{slot_long}
use Rattle.grading.proofs.Tables.{laid_part, slots_fit, slotted_more, slotted_all, tabled_is}
use Rattle.grading.proofs.grading.steps.table_of.Goals as goal

pub loop-s-preserved : goal.loop-s-preserved
loop-s-preserved g c f same =
    let k = g.K.Kind.coding in
    let l = g.met.K.Kind.lawful in
    let s = c.loop-s.s in
    let v = c.WIDTH-width.result in
    let e : v ≡ k.wide = c.WIDTH-width.ensures ∙ g.met.K.Kind.width in
    let long : length c.loop-s.table ≡ 128 = search rules in
    let room : k.wide * s + k.wide ≤ length c.loop-s.table = omega (arith, slots_fit k.wide s c.args.units l.narrow c.loop-s-test.true c.requires.few) in
    let is : c.write_slot.new.out ≡ slot_bytes k (f s) =
    c.write_slot.ensures ∙ laid_part k.wide v s (slot_bytes k c.value.result) c.loop-s.table e (slot_long k l c.value.result) room
    ∙ ap (slot_bytes k) (same s c.value.result c.value.ensures) in
    let before = c.loop-s.invariant f same in
    slotted_more k f s c.loop-s.table (replicate 128 0) c.write_slot.new.out (ap length is ∙ slot_long k l (f s)) room before.0 before.1 is v e

pub returns : goal.returns
returns g c f same =
    let k = g.K.Kind.coding in
    let all = c.loop-s.invariant f same in
    slotted_all k f c.loop-s.s c.args.units c.loop-s.table (replicate 128 0) (omega arith) all.0 all.1 ∙ tabled_is k f c.args.units
