use Rattle.std.proofs.Common.{ap, subst, ◌∙◌}
use Rattle.saved_heap.specs.heap_pictures.Pictures.{content_of}
use Rattle.saved_heap.specs.heap_pictures.Reading.{Gives, picture_at}
use Rattle.saved_heap.proofs.heap_pictures.ReadAgain.{reads_sound, saved_again}
use Rattle.saved_heap.proofs.heap_pictures.reading.decode.Goals as goal

pub returns-clause-sound : goal.returns-clause-sound
returns-clause-sound c = reads_sound c.args.bytes.now c.picture_of.result c.picture_of.ensures

pub returns-clause-again : goal.returns-clause-again
returns-clause-again c = λ p sound short same.
    subst (λ f. Gives content_of c.picture_of.result f) (ap picture_at same ∙ saved_again p sound short) c.picture_of.ensures
