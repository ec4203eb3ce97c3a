-- The lists of next stations and depths, as links are written.
use Rattle.std.proofs.Common.{◌≡◌, ℕ, ◌+◌, ◌<◌, ◌≤◌, true, false, List, length, get_or, set, replicate, is_some, Some, None, Option, sym, refl, ap, ◌∙◌, subst, inl, inr, ⊎_elim, arith, length-set}
use lib.ListN.{length-map}
use Rattle.std.proofs.lemmas.List.{get_or-map, map-set, get_or-replicate, get_or_default, length-replicate, get_or-set_other, get_or-set_same}
use Rattle.std.proofs.lemmas.Bool.{cases_eq}
use Rattle.records.specs.Lists.{join_of, records_of, JoinedBefore, Lawful}
use Rattle.records.proofs.Listing.{joined_earlier}
use Rattle.label.specs.Labels.{zero_label}
use Rattle.records.specs.declared.record.Record.{Record}
use Rattle.tree.specs.Records.{Records, label_at, Different, Earlier}
use Rattle.tree.specs.Turned.{Unset, Turned, Settling, Settled}
use Rattle.tree.proofs.Turning.{turned_start, turned_more, settling_more, settling_kept}
use Rattle.chart.specs.Links.{up_of, depth_of, ups_of, depths_of}
use Rattle.chart.specs.declared.link.Link.{Link}

-- links -----------------------------------------------------------------------------------------

pub depth_at : (ls : List (Option Link)) (k : ℕ) (o : Option Link) → k < length ls → o ≡ get_or ls k o → get_or (depths_of ls) k 0 ≡ depth_of o
depth_at ls k o h e = get_or-map depth_of ls k o 0 h ∙ ap depth_of (sym e)

pub up_at : (ls : List (Option Link)) (k : ℕ) (o : Option Link) → k < length ls → o ≡ get_or ls k o → get_or (ups_of ls) k 0 ≡ up_of o
up_at ls k o h e = get_or-map up_of ls k o 0 h ∙ ap up_of (sym e)

pub link_up : (ls : List (Option Link)) (k : ℕ) (d : Option Link) (l : Link) → k < length ls → get_or ls k d ≡ Some l → get_or (ups_of ls) k 0 ≡ l.up
link_up ls k d l h e = up_at ls k (get_or ls k d) h (get_or_default ls k d (get_or ls k d) h) ∙ ap up_of e

pub link_depth : (ls : List (Option Link)) (k : ℕ) (d o : Option Link) → k < length ls → get_or ls k d ≡ o → get_or (depths_of ls) k 0 ≡ depth_of o
link_depth ls k d o h e = depth_at ls k (get_or ls k d) h (get_or_default ls k d (get_or ls k d) h) ∙ ap depth_of e

pub depth_set : (ls : List (Option Link)) (k : ℕ) (o : Option Link) → k < length ls → get_or (depths_of (set ls k o)) k 0 ≡ depth_of o
depth_set ls k o h = ap (λ (ds : List ℕ). get_or ds k 0) (map-set depth_of ls k o) ∙ get_or-set_same (depths_of ls) k (depth_of o) 0 (omega (arith, length-map ls depth_of))

pub first_long : (k : ℕ) (o : Option Link) → length (set (replicate 1024 None) k o) ≡ 1024
first_long k o = length-set (replicate 1024 None) k o ∙ length-replicate {A = Option Link} 1024 None

-- what holds of the lists with a link's fields written holds of those with the link written
written : (P : List ℕ → List ℕ → Type 0) (ls : List (Option Link)) (k : ℕ) (o : Option Link) (u d : ℕ) → up_of o ≡ u → depth_of o ≡ d → P (set (ups_of ls) k u) (set (depths_of ls) k d) → P (ups_of (set ls k o)) (depths_of (set ls k o))
written P ls k o u d eu ed p =
    subst (λ (us : List ℕ). P us (depths_of (set ls k o))) (ap (set (ups_of ls) k) (sym eu) ∙ sym (map-set up_of ls k o))
    (subst (P (set (ups_of ls) k u)) (ap (set (depths_of ls) k) (sym ed) ∙ sym (map-set depth_of ls k o)) p)

unset : (n : ℕ) → Unset (depths_of (replicate n None))
unset n k h =
    let l = length-map (replicate n None) depth_of in
    let r = length-replicate {A = Option Link} n None in
    get_or-map depth_of (replicate n None) k None 0 (omega arith) ∙ ap depth_of (get_or-replicate n k None None (omega arith))

pub is_linked : (o : Option Link) → is_some o ≡ true → 0 < depth_of o
is_linked (Some l) e = l.some
is_linked None e = cc

pub not_linked : (o : Option Link) → is_some o ≡ false → depth_of o ≡ 0
not_linked (Some l) e = cc
not_linked None e = refl

-- records ---------------------------------------------------------------------------------------

-- rows of which v is what they say
pub record Says (rs : List Record) (v : Records) : Type 0 where
  pub is : records_of rs ≡ v
  pub lawful : Lawful rs
  pub labels : length v.labels ≡ length rs
  pub joins : length v.joins ≡ length rs
  pub few : length rs ≤ 1024
  pub earlier : Earlier v.joins
  pub different : Different v.labels

pub says : (rs : List Record) (v : Records) → records_of rs ≡ v → Lawful rs → Says rs v
says rs v is w =
    record {
      is = is;
      lawful = w;
      labels = sym (ap (λ (x : Records). length x.labels) is) ∙ length-map rs (λ (x : Record). x.label);
      joins = sym (ap (λ (x : Records). length x.joins) is) ∙ length-map rs (λ (x : Record). join_of x.joined);
      few = w.few;
      earlier = subst (λ (x : Records). Earlier x.joins) is (joined_earlier rs w);
      different = subst (λ (x : Records). Different x.labels) is w.different;
    }

-- the join of record k, and its label
join_at : (rs : List Record) (v : Records) → Says rs v → (k : ℕ) (d : Record) → k < length rs → get_or v.joins k 0 ≡ join_of (get_or rs k d).joined
join_at rs v s k d h = sym (ap (λ (x : Records). get_or x.joins k 0) s.is) ∙ get_or-map (λ (x : Record). join_of x.joined) rs k d 0 h

pub row_join : (rs : List Record) (v : Records) → Says rs v → (k : ℕ) (r : Record) → k < length rs → r ≡ get_or rs k r → get_or v.joins k 0 ≡ join_of r.joined
row_join rs v s k r h e = join_at rs v s k r h ∙ ap (λ (x : Record). join_of x.joined) (sym e)

pub join_is : (rs : List Record) (v : Records) → Says rs v → (k : ℕ) (d : Record) (j : ℕ) → k < length rs → (get_or rs k d).joined ≡ Some j → get_or v.joins k 0 ≡ j
join_is rs v s k d j h e = join_at rs v s k d h ∙ ap join_of e

pub row_label : (rs : List Record) (v : Records) → Says rs v → (k : ℕ) (r : Record) → k < length rs → r ≡ get_or rs k r → label_at v.labels k ≡ r.label
row_label rs v s k r h e = sym (ap (λ (x : Records). label_at x.labels k) s.is) ∙ get_or-map (λ (x : Record). x.label) rs k r zero_label h ∙ ap (λ (x : Record). x.label) (sym e)

named_at : (rs : List Record) (k : ℕ) (d : Record) (o : Option ℕ) → Lawful rs → k < length rs → (get_or rs k d).joined ≡ o → JoinedBefore k o
named_at rs k d o w h e = subst (JoinedBefore k) (ap (λ (x : Record). x.joined) (get_or_default rs k _ d h) ∙ e) (w.joined k h)

pub before_is : (rs : List Record) (k : ℕ) (d : Record) (j : ℕ) → Lawful rs → 0 < k → k < length rs → (get_or rs k d).joined ≡ Some j → j < k
before_is rs k d j w some h e = named_at rs k d (Some j) w h e some

-- the way to the first record -------------------------------------------------------------------

pub turned_first : (js : List ℕ) (root : ℕ) (l : Link) → root < length js → length js ≤ 1024 → l.up ≡ root → l.depth ≡ 1
    → Turned js root (ups_of (set (replicate 1024 None) root (Some l))) (depths_of (set (replicate 1024 None) root (Some l))) root
turned_first js root l h few eu ed =
    let n = length-replicate {A = Option Link} 1024 None in
    let lu = length-map (replicate 1024 None) up_of in
    let ld = length-map (replicate 1024 None) depth_of in
    written (λ us ds. Turned js root us ds root) (replicate 1024 None) root (Some l) root 1 eu ed (turned_start js root (ups_of (replicate 1024 None)) (depths_of (replicate 1024 None)) h (omega arith) (omega arith) (unset 1024))

pub turned_next : (js : List ℕ) (root : ℕ) (ls : List (Option Link)) (cur next level : ℕ) (l : Link) → length js ≤ 1024 → length ls ≡ 1024 → root < length js → 0 < cur → cur ≤ root → get_or js cur 0 ≡ next → next < cur → get_or (depths_of ls) cur 0 ≡ level → level < 1024
    → l.up ≡ cur → l.depth ≡ level + 1 → Turned js root (ups_of ls) (depths_of ls) cur → Turned js root (ups_of (set ls next (Some l))) (depths_of (set ls next (Some l))) next
turned_next js root ls cur next level l few long lr some le is lt at low eu ed t =
    let lu = length-map ls up_of in
    let ld = length-map ls depth_of in
    written (λ us ds. Turned js root us ds next) ls next (Some l) cur (level + 1) eu ed
    (subst (λ (n : ℕ). Turned js root (set (ups_of ls) n cur) (set (depths_of ls) n (level + 1)) n) is (turned_more js root (ups_of ls) (depths_of ls) (omega arith) (omega arith) cur level lr some le (omega arith) at low t))

-- the other stations ----------------------------------------------------------------------------

pub settling_all : (js : List ℕ) (root : ℕ) (ups ds : List ℕ) (k : ℕ) → length js ≤ k → Settling js root ups ds k → Settled js root ups ds
settling_all js root ups ds k h s =
    record {
      top = s.top;
      own = s.own;
      linked = λ x l ne. s.linked x l (s.done x (omega arith)) ne;
      legs = λ x p l. ⊎_elim (λ (a : (0 < get_or ds (get_or js x 0) 0) × (get_or ups (get_or js x 0) 0 ≡ x)). inl a.1) (λ (a : get_or ups x 0 ≡ get_or js x 0). inr a) (s.legs x p l (s.done x (omega arith)));
    }

module _ (js : List ℕ) (root : ℕ) (ls : List (Option Link)) (k : ℕ) (few : length js ≤ 1024) (long : length ls ≡ 1024) (inside : k < length js) (first : 0 < get_or (depths_of ls) 0 0) (s : Settling js root (ups_of ls) (depths_of ls) k) where
  ups_long : length (ups_of ls) ≡ 1024
  ups_long = length-map ls up_of ∙ long

  depths_long : length (depths_of ls) ≡ 1024
  depths_long = length-map ls depth_of ∙ long

  pub settled_kept : (o : Option Link) → o ≡ get_or ls k o → is_some o ≡ true → Settling js root (ups_of ls) (depths_of ls) (k + 1)
  settled_kept o e some =
      settling_kept js root (ups_of ls) (depths_of ls) (omega (arith, ups_long)) (omega (arith, depths_long)) k
      (omega (arith, depth_at ls k o (omega arith) e, is_linked o some)) s

  module _ (o : Option Link) (e : o ≡ get_or ls k o) (none : is_some o ≡ false) where
    pub not_first : 0 < k
    not_first =
        let z = depth_at ls k o (omega arith) e in
        let n = not_linked o none in
        ⊎_elim (λ (q : k ≡ 0). omega (arith, ap (λ (i : ℕ). get_or (depths_of ls) i 0) q)) (λ (q : k ≡ 0 → ⊥). omega arith) (cases_eq k 0)

    pub settled_more : (p : Option Link) → get_or js k 0 < k → up_of p ≡ get_or js k 0 → depth_of p ≡ get_or (depths_of ls) (get_or js k 0) 0 + 1 → Settling js root (ups_of (set ls k p)) (depths_of (set ls k p)) (k + 1)
    settled_more p lt eu ed =
        written (λ us ds. Settling js root us ds (k + 1)) ls k p (get_or js k 0) (get_or (depths_of ls) (get_or js k 0) 0 + 1) eu ed
        (settling_more js root (ups_of ls) (depths_of ls) (omega (arith, ups_long)) (omega (arith, depths_long)) k (get_or (depths_of ls) (get_or js k 0) 0) not_first inside lt
        (depth_at ls k o (omega arith) e ∙ not_linked o none) refl s)

    pub first_kept : (p : Option Link) → 0 < get_or (depths_of (set ls k p)) 0 0
    first_kept p =
        let q : 0 ≡ k → ⊥ = λ z. omega (arith, not_first) in
        omega (arith, ap (λ (ds : List ℕ). get_or ds 0 0) (map-set depth_of ls k p) ∙ get_or-set_other (depths_of ls) k 0 (depth_of p) 0 q)
