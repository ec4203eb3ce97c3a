use Rattle.std.proofs.Common.{◌∙◌, arith, rules}
use Rattle.std.specs.Slice.Iter.{chunks_exact_rest}
use Rattle.script.proofs.Digits.{turn, stray_none}
use Rattle.script.proofs.hex.read_hex.Goals as goal

pub returns-in_err-pair-clause-refuses : goal.returns-in_err-pair-clause-refuses
returns-in_err-pair-clause-refuses c =
    let step = c.in-Some.ensures.steps in
    let inv = c.loop-digits.invariant in
    let none = stray_none c.args.text.now c.loop-digits.bytes.items (chunks_exact_rest c.loop-digits.digits-iterator) c.in-Some.digits.now (chunks_exact_rest c.next.new.self) inv.0 step.1.0 (step.1.1 ∙ inv.1) (omega arith) c.in_err-pair.ensures.refuses.1 in
    search rules

pub loop-digits-preserved : goal.loop-digits-preserved
loop-digits-preserved c =
    let step = c.in-Some.ensures.steps in
    let inv = c.loop-digits.invariant in
    let read = c.in_ok-pair.ensures.reads in (
      turn c.args.text.now c.loop-digits.bytes.items c.push.new.self.items (chunks_exact_rest c.loop-digits.digits-iterator) c.in-Some.digits.now (chunks_exact_rest c.next.new.self) c.in_ok-pair.field-0
          inv.0 step.1.0 (step.1.1 ∙ inv.1) read.0 read.1 c.in_ok-push.ensures.items,
      step.0 ∙ inv.1,
    )
