use Rattle.std.proofs.Common.{◌≡◌, ◌+◌, true, false, not, ℕ, get_or, is_some, sym, ap, ◌∙◌, arith, length-set}
use Rattle.chart.specs.Links.{depths_of}
use Rattle.chart.proofs.Turned.{says, row_join, settling_all, settled_kept, settled_more, not_first, first_kept}
use Rattle.chart.proofs.turn.turn.Goals as goal
use Rattle.chart.proofs.turn.turn.Goals.{then-is_none, else-is_none}

pub loop-k-preserved : goal.loop-k-preserved
loop-k-preserved c =
    let i = c.loop-k.invariant in
    let n = says c.as_slice-row-items.result.now c.args.records.now c.as_slice-row-items.ensures.value c.as_slice-row-items.ensures.lawful in
    let is = row_join c.as_slice-row-items.result.now c.args.records.now n c.loop-k.k c.row-item.result (omega arith) c.row-item.is in
    elim c.if-is_none.branch [
      | then-is_none w ↦
          let none : is_some c.index-links-k.result ≡ false = ap is_some c.index-links-k.is ∙ c.is_none.ensures ∙ ap not w.if-is_none.true in
          let some = not_first c.args.records.now.joins c.args.root c.loop-k.links c.loop-k.k (omega arith) i.long (omega arith) i.first i.settling c.index-links-k.result c.index-links-k.is none in
          let lt = n.earlier c.loop-k.k some (omega arith) in
          simp w.links-is (record {
            long = length-set c.loop-k.links _ _ ∙ i.long;
            first = first_kept c.args.records.now.joins c.args.root c.loop-k.links c.loop-k.k (omega arith) i.long (omega arith) i.first i.settling c.index-links-k.result c.index-links-k.is none _;
            settling = settled_more c.args.records.now.joins c.args.root c.loop-k.links c.loop-k.k (omega arith) i.long (omega arith) i.first i.settling c.index-links-k.result c.index-links-k.is none w.link_to.result lt
                (w.link_to.ensures.up ∙ sym is) (w.link_to.ensures.depth ∙ ap (λ (j : ℕ). get_or (depths_of c.loop-k.links) j 0 + 1) (sym is));
          })
      | else-is_none w ↦
          let some : is_some c.index-links-k.result ≡ true = ap is_some c.index-links-k.is ∙ c.is_none.ensures ∙ ap not w.if-is_none.false in
          simp w.links-is (record { long = i.long; first = i.first; settling = settled_kept c.args.records.now.joins c.args.root c.loop-k.links c.loop-k.k (omega arith) i.long (omega arith) i.first i.settling c.index-links-k.result c.index-links-k.is some })
    ]

pub returns : goal.returns
returns c =
    let n = says c.as_slice-row-items.result.now c.args.records.now c.as_slice-row-items.ensures.value c.as_slice-row-items.ensures.lawful in
    settling_all _ _ _ _ c.loop-k.k (omega arith) c.loop-k.invariant.settling
