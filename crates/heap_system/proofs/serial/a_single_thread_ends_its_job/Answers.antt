use Rattle.heap_system.proofs.alone.Serials.{single_few}
use Rattle.heap_system.proofs.serial.a_single_thread_ends_its_job.Goals as goal

pub returns : goal.returns
returns _ c traces first rate job start planned one ts going =
    single_few c one traces first rate job start planned ts going
