use Rattle.std.proofs.Common.{◌≡◌, List, [], ◌∷◌, ◌++◌, map, length, take, drop, set, sym, refl, ap, ◌∙◌, arith, length-append, length-set}
use lib.ListN.{length-map}
use Rattle.std.proofs.lemmas.List.{map-append}
use Rattle.label.specs.declared.label.Label.{Label}
use Rattle.tree.specs.Courses.{course_from}
use Rattle.tree.specs.Stations.{station_label, parent_of, depth_of}
use Rattle.tree.proofs.Courses.{course_met, course_from_right, course_from-left, course_short}
use Rattle.ways.proofs.Writing.{write_back, write_front, write_last, written_front}
use Rattle.ways.proofs.cave.Cave.write_course.Goals as goal

pub loop-a-init : goal.loop-a-init
loop-a-init c =
    let e = c.course_length-total.ensures in
    (omega arith, c.requires.first, c.requires.second, omega arith, omega arith, omega (arith, course_short c.args.self.now.stations.now c.args.self.now.lawful c.args.u c.args.v c.requires.first c.requires.second, c.args.self.now.lawful.few), refl)

pub overflow_sub-back : goal.overflow_sub-back
overflow_sub-back c =
    let s = course_from_right c.args.self.now.stations.now c.args.self.now.lawful c.loop-a.a c.loop-a.b c.loop-a.invariant.1 c.loop-a.invariant.2 c.loop-a-test.true (omega arith) in
    omega (arith, ap length s.0, length-append (course_from c.args.self.now.stations.now c.loop-a.a (parent_of c.args.self.now.stations.now c.loop-a.b)) (c.loop-a.b ∷ []))

pub loop-a-smaller-then-depth_of : goal.loop-a-smaller-then-depth_of
loop-a-smaller-then-depth_of c =
    let s = course_from_right c.args.self.now.stations.now c.args.self.now.lawful c.loop-a.a c.loop-a.b c.loop-a.invariant.1 c.loop-a.invariant.2 c.loop-a-test.true (omega arith) in
    omega (arith, s.1, ap (depth_of c.args.self.now.stations.now) c.parent_of-b.ensures)

pub loop-a-preserved-then-depth_of : goal.loop-a-preserved-then-depth_of
loop-a-preserved-then-depth_of c =
    let s = course_from_right c.args.self.now.stations.now c.args.self.now.lawful c.loop-a.a c.loop-a.b c.loop-a.invariant.1 c.loop-a.invariant.2 c.loop-a-test.true (omega arith) in
    let long = ap length s.0 in
    let more = length-append (course_from c.args.self.now.stations.now c.loop-a.a (parent_of c.args.self.now.stations.now c.loop-a.b)) (c.loop-a.b ∷ []) in
    let names : map (station_label c.args.self.now.stations.now) (course_from c.args.self.now.stations.now c.loop-a.a c.loop-a.b) ≡ map (station_label c.args.self.now.stations.now) (course_from c.args.self.now.stations.now c.loop-a.a (parent_of c.args.self.now.stations.now c.loop-a.b)) ++ c.label_of.result ∷ [] =
    ap (map (station_label c.args.self.now.stations.now)) s.0 ∙ map-append (station_label c.args.self.now.stations.now) (course_from c.args.self.now.stations.now c.loop-a.a (parent_of c.args.self.now.stations.now c.loop-a.b)) (c.loop-a.b ∷ [])
    ∙ ap (λ (l : Label). map (station_label c.args.self.now.stations.now) (course_from c.args.self.now.stations.now c.loop-a.a (parent_of c.args.self.now.stations.now c.loop-a.b)) ++ l ∷ []) (sym c.label_of.ensures) in
    let old = sym (ap (λ (xs : List Label). take c.loop-a.front c.loop-a.out ++ (xs ++ drop c.loop-a.back c.loop-a.out)) names) ∙ c.loop-a.invariant.6 in
    simp (length-set, c.parent_of-b.ensures) (
      c.loop-a.invariant.0,
      c.loop-a.invariant.1,
      c.args.self.now.lawful.inside c.loop-a.b c.loop-a.invariant.2,
      omega arith,
      omega arith,
      c.loop-a.invariant.5,
      write_back c.loop-a.out c.label_of.result c.loop-a.front c.loop-a.back (map (station_label c.args.self.now.stations.now) (course_from c.args.self.now.stations.now c.loop-a.a (parent_of c.args.self.now.stations.now c.loop-a.b))) _ (omega arith) (omega arith) old,
    )

pub listed-else-depth_of : goal.listed-else-depth_of
listed-else-depth_of c = let s = course_from-left c.args.self.now.stations.now c.args.self.now.lawful c.loop-a.a c.loop-a.b c.loop-a.invariant.1 c.loop-a.invariant.2 c.loop-a-test.true (omega arith) in omega (arith, ap length s.0)

pub bounds-out-front : goal.bounds-out-front
bounds-out-front c = let s = course_from-left c.args.self.now.stations.now c.args.self.now.lawful c.loop-a.a c.loop-a.b c.loop-a.invariant.1 c.loop-a.invariant.2 c.loop-a-test.true (omega arith) in omega (arith, ap length s.0)

pub loop-a-smaller : goal.loop-a-smaller
loop-a-smaller c =
    let s = course_from-left c.args.self.now.stations.now c.args.self.now.lawful c.loop-a.a c.loop-a.b c.loop-a.invariant.1 c.loop-a.invariant.2 c.loop-a-test.true (omega arith) in
    omega (arith, s.1, ap (depth_of c.args.self.now.stations.now) c.parent_of-a.ensures)

pub loop-a-preserved : goal.loop-a-preserved
loop-a-preserved c =
    let s = course_from-left c.args.self.now.stations.now c.args.self.now.lawful c.loop-a.a c.loop-a.b c.loop-a.invariant.1 c.loop-a.invariant.2 c.loop-a-test.true (omega arith) in
    let long = ap length s.0 in
    let names : map (station_label c.args.self.now.stations.now) (course_from c.args.self.now.stations.now c.loop-a.a c.loop-a.b) ≡ c.label_of-else-depth_of.result ∷ map (station_label c.args.self.now.stations.now) (course_from c.args.self.now.stations.now (parent_of c.args.self.now.stations.now c.loop-a.a) c.loop-a.b) =
    ap (map (station_label c.args.self.now.stations.now)) s.0
    ∙ ap (λ (l : Label). l ∷ map (station_label c.args.self.now.stations.now) (course_from c.args.self.now.stations.now (parent_of c.args.self.now.stations.now c.loop-a.a) c.loop-a.b)) (sym c.label_of-else-depth_of.ensures) in
    let old = sym (ap (λ (xs : List Label). take c.loop-a.front c.loop-a.out ++ (xs ++ drop c.loop-a.back c.loop-a.out)) names) ∙ c.loop-a.invariant.6 in
    simp (length-set, c.parent_of-a.ensures) (
      c.loop-a.invariant.0,
      c.args.self.now.lawful.inside c.loop-a.a c.loop-a.invariant.1,
      c.loop-a.invariant.2,
      omega arith,
      c.loop-a.invariant.4,
      c.loop-a.invariant.5,
      write_front c.loop-a.out c.label_of-else-depth_of.result c.loop-a.front c.loop-a.back (map (station_label c.args.self.now.stations.now) (course_from c.args.self.now.stations.now (parent_of c.args.self.now.stations.now c.loop-a.a) c.loop-a.b)) _ (omega arith) (omega arith) old,
    )

pub listed-2 : goal.listed-2
listed-2 c = omega (arith, ap length (course_met c.args.self.now.stations.now c.args.self.now.lawful c.loop-a.a c.loop-a.b c.loop-a.invariant.1 c.loop-a.invariant.2 c.loop-a-test.false))

pub bounds-out-front-2 : goal.bounds-out-front-2
bounds-out-front-2 c = omega (arith, ap length (course_met c.args.self.now.stations.now c.args.self.now.lawful c.loop-a.a c.loop-a.b c.loop-a.invariant.1 c.loop-a.invariant.2 c.loop-a-test.false))

pub returns : goal.returns
returns c =
    let met = course_met c.args.self.now.stations.now c.args.self.now.lawful c.loop-a.a c.loop-a.b c.loop-a.invariant.1 c.loop-a.invariant.2 c.loop-a-test.false in
    let long = ap length met in
    let names : map (station_label c.args.self.now.stations.now) (course_from c.args.self.now.stations.now c.loop-a.a c.loop-a.b) ≡ c.label_of-2.result ∷ [] =
    ap (map (station_label c.args.self.now.stations.now)) met ∙ ap (λ (l : Label). l ∷ []) (sym c.label_of-2.ensures) in
    let old = sym (ap (λ (xs : List Label). take c.loop-a.front c.loop-a.out ++ (xs ++ drop c.loop-a.back c.loop-a.out)) names) ∙ c.loop-a.invariant.6 in
    let whole = write_last c.loop-a.out c.label_of-2.result c.loop-a.front c.loop-a.back _ (omega arith) (omega arith) old in
    let size = length-map (course_from c.args.self.now.stations.now c.args.u c.args.v) (station_label c.args.self.now.stations.now) ∙ sym c.course_length-total.ensures in
    let both = written_front (set c.loop-a.out c.loop-a.front c.label_of-2.result) c.args.out.now (map (station_label c.args.self.now.stations.now) (course_from c.args.self.now.stations.now c.args.u c.args.v)) c.course_length-total.result size whole in
    record { count = c.course_length-total.ensures; written = both.0; behind = both.1 }
