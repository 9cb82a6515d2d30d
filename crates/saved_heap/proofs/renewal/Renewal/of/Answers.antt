use Rattle.saved_heap.specs.heap_pictures.Pictures.{content_of}
use Rattle.saved_heap.proofs.Followed.{followed_none}
use Rattle.saved_heap.proofs.renewal.Renewal.of.Goals as goal

pub returns-in-Ok-clause-followed : goal.returns-in-Ok-clause-followed
returns-in-Ok-clause-followed c = λ from.
    followed_none from (content_of c.args.picture.now) c.in_ok-commands.commands.items
    c.in_ok-commands.ensures
