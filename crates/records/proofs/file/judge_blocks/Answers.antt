use Rattle.std.proofs.Common.{rules, ◌≡◌, ℕ, ◌+◌, ◌-◌, ◌*◌, eqb, length, Ok, Err, ap, ◌∙◌, sym, ⊎_elim, arith}
use Rattle.std.proofs.lemmas.Bool.{cases_eq}
use Rattle.std.proofs.lemmas.Result.{err_from_is_err_and}
use Rattle.block.specs.Blocks.{block_verdict}
use Rattle.records.specs.Files.{blocks_from, count_at, starts}
use Rattle.records.proofs.Turns.{blocks_left, next_block, block_good, block_more, block_long, block_fault}
use Rattle.records.proofs.file.judge_blocks.Goals as goal

pub loop-b-preserved : goal.loop-b-preserved
loop-b-preserved c =
    let i = c.loop-b.invariant in
    let s = c.in-Some.ensures.steps in
    let k = next_block c.args.file.now c.args.blocks c.loop-b.b-iterator.count _ _ _ _ c.requires.whole i.few i.left s.0.1.0 s.0.1.1 i.size in
    let good : Ok c.in_ok-total.field-0 ≡ block_verdict c.in-Some.block.now c.loop-b.b-iterator.count (eqb (c.loop-b.b-iterator.count + 1) c.args.blocks) (512 * c.loop-b.b-iterator.count) =
    c.in_ok-total.ensures ∙ ap (λ (k : ℕ). block_verdict c.in-Some.block.now k (eqb (k + 1) c.args.blocks) (512 * k)) s.1 in
    let g = block_good k c.in_ok-total.field-0 good in
    record {
      can = search rules;
      finite = search rules;
      size = search rules;
      left = k.next ∙ ap (blocks_left c.args.file.now) (sym s.2);
      few = omega (arith, k.more, s.2);
      judged = ap (λ (k : ℕ). blocks_from c.args.file.now c.args.blocks k (c.args.blocks - k) (starts c.args.file.now 0 k)) s.2
          ∙ block_more k c.in_ok-total.field-0 good ∙ i.judged;
      long = ap (λ (k : ℕ). length (starts c.args.file.now 0 k)) s.2 ∙ block_long k c.in_ok-total.field-0 good ∙ ap (λ (k : ℕ). k + c.in_ok-total.field-0) i.long;
      most = omega (arith, i.most, s.2, g.most);
      small = λ j h. ⊎_elim (λ (e : j ≡ c.loop-b.b-iterator.count). omega (arith, ap (count_at c.args.file.now) e, g.count, g.most)) (λ (ne : j ≡ c.loop-b.b-iterator.count → ⊥). i.small j (omega (arith, s.2))) (cases_eq j c.loop-b.b-iterator.count);
    }

pub returns-in_err-total : goal.returns-in_err-total
returns-in_err-total c =
    let i = c.loop-b.invariant in
    let s = c.in-Some.ensures.steps in
    let bad : Err c.in_err-total.field-0.0 ≡ block_verdict c.in-Some.block.now c.loop-b.b-iterator.count (eqb (c.loop-b.b-iterator.count + 1) c.args.blocks) (512 * c.loop-b.b-iterator.count) =
    c.in_err-total.ensures ∙ ap (λ (k : ℕ). block_verdict c.in-Some.block.now k (eqb (k + 1) c.args.blocks) (512 * k)) s.1 in
    let p = err_from_is_err_and c.from_residual.result c.from_residual.ensures.1 in
    rw (p.1, p.2)
    (block_fault (next_block c.args.file.now c.args.blocks c.loop-b.b-iterator.count _ _ _ _ c.requires.whole i.few i.left s.0.1.0 s.0.1.1 i.size) (starts c.args.file.now 0 c.loop-b.b-iterator.count) _ bad ∙ i.judged)
