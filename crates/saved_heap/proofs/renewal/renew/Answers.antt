use Rattle.saved_heap.specs.heap_pictures.Pictures.{content_of}
use Rattle.saved_heap.proofs.Loaded.{renewed, renewed_built, renewed_not}
use Rattle.saved_heap.proofs.renewal.renew.Goals as goal

pub returns-clause-shown : goal.returns-clause-shown
returns-clause-shown c =
    renewed c.names_follow_one_another.ensures c.args.from.now (content_of c.in_ok-picture.picture)
    c.build.result c.in_ok-picture.ensures.picture c.build.ensures.shown

pub returns-clause-built : goal.returns-clause-built
returns-clause-built c =
    renewed_built c.args.from.now c.args.c (content_of c.in_ok-picture.picture) c.build.result
    c.in_ok-picture.ensures.picture c.in_ok-picture.ensures.order c.build.ensures.built

pub returns-clause-refused : goal.returns-clause-refused
returns-clause-refused c =
    renewed_not c.args.from.now c.args.c (content_of c.in_ok-picture.picture) c.build.result
    c.in_ok-picture.ensures.picture c.in_ok-picture.ensures.order c.build.ensures.refused
