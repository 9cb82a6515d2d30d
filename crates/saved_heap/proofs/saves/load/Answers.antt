use Rattle.saved_heap.specs.heap_pictures.Pictures.{content_of}
use Rattle.saved_heap.proofs.Loaded.{loaded_again, read_again}
use Rattle.saved_heap.proofs.saves.load.Goals as goal

pub returns-in-Err-Memory-clause-intact : goal.returns-in-Err-Memory-clause-intact
returns-in-Err-Memory-clause-intact c = λ p sound short same.
    read_again c.args.bytes.now p sound short same

pub returns-in-Ok-build-clause-again : goal.returns-in-Ok-build-clause-again
returns-in-Ok-build-clause-again c = λ from p pictured short same.
    loaded_again c.names_follow_one_another.ensures from c.in-Ok-build.heap c.args.bytes.now p
    (content_of c.in-Ok.picture) c.in-Ok.ensures.exact c.in-Ok-build.ensures.shown pictured short same

pub returns-in-Ok-build-clause-intact : goal.returns-in-Ok-build-clause-intact
returns-in-Ok-build-clause-intact c = λ p sound short same.
    read_again c.args.bytes.now p sound short same
