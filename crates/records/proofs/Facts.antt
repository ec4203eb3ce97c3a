-- What holds of the records of a good file.
use Rattle.std.proofs.Common.{◌≡◌, ℕ, ◌+◌, ◌<◌, ◌⊎◌, List, length, get_or, Some, Ok, Err, Result, sym, ap, ◌∙◌, inl, inr, ⊎_elim, arith}
use Rattle.std.specs.Prelude.{IfOk}
use Rattle.label.specs.Labels.{bytes_of, label_of}
use Rattle.label.specs.declared.label.Label.{Label}
use Rattle.label.proofs.Reading.{read_written, same_label_lem}
use Rattle.tree.specs.Records.{Records, label_at}
use Rattle.records.specs.Accepts.{Stands, Written, Accepted, Sound, FileHolds, FileJoins}
use Rattle.records.specs.Files.{read_file}
use Rattle.records.specs.Halves.{eight_at}
use Rattle.records.specs.declared.fault.PlanFault.{PlanFault}
use Rattle.records.proofs.Accepting.{read_good}

pub accepted_sound : (file : List ℕ) (rs : Records) → Accepted file rs → Sound rs
accepted_sound file rs a =
    let w = a.written in
    let el = w.labels_long in
    let ej = w.joins_long in
    let some = a.stations in
    let most = a.few in
    record {
      long = omega arith;
      some = omega arith;
      most = omega arith;
      different = w.different;
      root = (w.first (omega arith)).1;
      earlier = λ k h l. (w.later k h (omega arith)).0;
    }

pub read_sound : (file : List ℕ) (rs : Records) → Ok rs ≡ read_file file → Sound rs
read_sound file rs e = accepted_sound file rs (read_good file rs (sym e))

pub if_sound : (file : List ℕ) (r : Result Records PlanFault) → r ≡ read_file file → IfOk r Sound
if_sound file (Ok rs) e = read_sound file rs e
if_sound file (Err f) e = tt

-- one label stands at a byte
pub stands_one : (file : List ℕ) (p : ℕ) (a b : Label) → Stands file p a → Stands file p b → a ≡ b
stands_one file p a b e f = same_label_lem a b (sym e ∙ f)

stands_as : (file : List ℕ) (p : ℕ) (a b : Label) → Stands file p a → a ≡ b → Stands file p b
stands_as file p a b e f = e ∙ ap bytes_of f

module _ (file ps : List ℕ) (rs : Records) (w : Written file ps rs) where
  -- the stations of the file are those that are read
  pub file_holds : (a : Label) → FileHolds file ps a → (k : ℕ) × ((k < length rs.labels) × (label_at rs.labels k ≡ a))
  file_holds a h = (h.0, (omega (arith, w.labels_long, h.1.0), stands_one file (get_or ps h.0 0) (label_at rs.labels h.0) a (w.label h.0 h.1.0) h.1.1))

  pub holds_file : (a : Label) → (k : ℕ) × ((k < length rs.labels) × (label_at rs.labels k ≡ a)) → FileHolds file ps a
  holds_file a g =
      let l : g.0 < length ps = omega (arith, w.labels_long, g.1.0) in
      (g.0, (l, stands_as file (get_or ps g.0 0) (label_at rs.labels g.0) a (w.label g.0 l) g.1.1))

  -- the joins of the file are those that are read
  pub file_joins : (a b : Label) → FileJoins file ps a b
      → (k : ℕ) × ((0 < k) × (k < length rs.labels) × (((label_at rs.labels k ≡ a) × (label_at rs.labels (get_or rs.joins k 0) ≡ b)) ⊎ ((label_at rs.labels k ≡ b) × (label_at rs.labels (get_or rs.joins k 0) ≡ a))))
  file_joins a b g =
      let s = w.later g.0 g.1.0 g.1.1 in
      let one : (x : Label) → Stands file (get_or ps g.0 0) x → label_at rs.labels g.0 ≡ x = λ x e. stands_one file (get_or ps g.0 0) (label_at rs.labels g.0) x (w.label g.0 g.1.1) e in
      let two : (x : Label) → Stands file (get_or ps g.0 0 + 8) x → label_at rs.labels (get_or rs.joins g.0 0) ≡ x = λ x e. stands_one file (get_or ps g.0 0 + 8) (label_at rs.labels (get_or rs.joins g.0 0)) x s.1 e in (
        g.0,
        (
          g.1.0,
          omega (arith, w.labels_long, g.1.1),
          ⊎_elim
              (λ (e : Stands file (get_or ps g.0 0) a × Stands file (get_or ps g.0 0 + 8) b). inl (one a e.0, two b e.1))
              (λ (e : Stands file (get_or ps g.0 0) b × Stands file (get_or ps g.0 0 + 8) a). inr (one b e.0, two a e.1))
              g.1.2,
        ),
      )

  pub joins_file : (a b : Label)
      → (k : ℕ) × ((0 < k) × (k < length rs.labels) × (((label_at rs.labels k ≡ a) × (label_at rs.labels (get_or rs.joins k 0) ≡ b)) ⊎ ((label_at rs.labels k ≡ b) × (label_at rs.labels (get_or rs.joins k 0) ≡ a))))
      → FileJoins file ps a b
  joins_file a b g =
      let h : g.0 < length ps = omega (arith, w.labels_long, g.1.1) in
      let s = w.later g.0 g.1.0 h in
      let one : (x : Label) → label_at rs.labels g.0 ≡ x → Stands file (get_or ps g.0 0) x = λ x e. stands_as file (get_or ps g.0 0) (label_at rs.labels g.0) x (w.label g.0 h) e in
      let two : (x : Label) → label_at rs.labels (get_or rs.joins g.0 0) ≡ x → Stands file (get_or ps g.0 0 + 8) x = λ x e. stands_as file (get_or ps g.0 0 + 8) (label_at rs.labels (get_or rs.joins g.0 0)) x s.1 e in (
        g.0,
        (
          g.1.0,
          h,
          ⊎_elim
              (λ (e : (label_at rs.labels g.0 ≡ a) × (label_at rs.labels (get_or rs.joins g.0 0) ≡ b)). inl (one a e.0, two b e.1))
              (λ (e : (label_at rs.labels g.0 ≡ b) × (label_at rs.labels (get_or rs.joins g.0 0) ≡ a)). inr (one b e.0, two a e.1))
              g.1.2,
        ),
      )

-- a label stands where it is read
pub stands_read : (file : List ℕ) (p : ℕ) (a : Label) → Stands file p a → label_of (eight_at file p) ≡ Some a
stands_read file p a e = ap label_of e ∙ read_written a
