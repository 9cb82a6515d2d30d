use Rattle.heap_system.proofs.alone.Serials.{serial_few, serial_ends}
use Rattle.heap_system.proofs.serial.serial_turns_end.Goals as goal

pub returns-clause-few : goal.returns-clause-few
returns-clause-few _ c traces first rate job start planned ts serial =
    serial_few c traces first job start rate planned ts serial

pub returns-clause-ends : goal.returns-clause-ends
returns-clause-ends _ c traces first rate job start planned ts serial long =
    serial_ends c traces first rate job start planned ts serial long
