use Rattle.std.proofs.Common.{◌≤◌, ap, refl, subst, arith, length}
use Rattle.saved_heap.specs.declared.heap_pictures.needs.Needs.{Needs}
use Rattle.saved_heap.specs.heap_pictures.Pictures.{content_of}
use Rattle.saved_heap.specs.heap_pictures.Plans.{plan_of}
use Rattle.saved_heap.proofs.heap_pictures.Turns.{count_is}
use Rattle.saved_heap.specs.Faults.{StopsBuilding}
use Rattle.saved_heap.proofs.Enough.{Heaps, Lives, live_lacks}
use Rattle.saved_heap.proofs.renewal.stopped.Goals as goal

pub returns : goal.returns
returns c =
    let p = content_of c.args.picture.now in
    let n = count_is c.args.picture.now in
    let few : length p.objects ≤ 65534 = (let f = c.requires.few in omega (arith, f, n)) in
    let stops = subst (StopsBuilding c.args.c.now (plan_of p)) c.in-Full.is c.requires.stops in
    let is = ap (λ (x : Needs). x.live) c.in-Some.ensures.needs in
    let lives : Lives = record {
      grow = c.live_grows.ensures;
      opening = c.opening_blocks_are_live.ensures;
      rate = c.one_rate.ensures.small;
    } in
    let heaps : Heaps = record {
      legal = c.histories_are_right.ensures.legal;
      licensed = c.histories_are_right.ensures.licensed;
      small = c.small_histories_are_shown.ensures;
      fits = c.lives_add_up.ensures.fits;
    } in
    let lacks = live_lacks lives heaps c.args.c.now p c.in-Full.cycle c.requires.can c.requires.sound few stops in
    (stops, omega (arith, is, lacks), is, refl)
