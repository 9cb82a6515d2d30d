use Rattle.std.proofs.Common.{◌≡◌, Bool, true, List, set, map, eqb, subst, sym, arith}
use Rattle.std.proofs.lemmas.List.{set_past, length-map}
use Rattle.never_heap.proofs.MarksByStamp.{marked_stays, marks_more}
use Rattle.never_heap.proofs.marks.Row.mark.Goals as goal

pub returns-then-i-len-clause-after : goal.returns-then-i-len-clause-after
returns-then-i-len-clause-after c =
    let xs = c.self.inside.stamps.items in
    subst (λ (bs : List Bool). bs ≡ set bs c.args.i true) c.self.view_is
    (sym (set_past (map (λ s. eqb s c.self.inside.present) xs) c.args.i true
    (omega (
      arith,
      length-map xs (λ s. eqb s c.self.inside.present),
      c.len.ensures,
      c.if-i-len.true,
      c.self.inside.stamps.ok.0,
    ))))

pub returns-then-index-self-clause-after : goal.returns-then-index-self-clause-after
returns-then-index-self-clause-after c =
    subst (λ (bs : List Bool). bs ≡ set bs c.args.i true) c.self.view_is
    (marked_stays c.self.inside.stamps.items c.self.inside.present c.args.i c.index.result.now
    (omega (arith, c.len.ensures, c.if-i-len.false, c.self.inside.stamps.ok.0))
    (omega (arith, c.index.ensures, c.if-index-self.true)))

pub returns-clause-after : goal.returns-clause-after
returns-clause-after c =
    let xs = c.self.inside.stamps.items in
    let p = c.self.inside.present in
    subst (λ (bs : List Bool). map (λ s. eqb s p) (set xs c.args.i p) ≡ set bs c.args.i true)
    c.self.view_is (marks_more xs p c.args.i)
