use Rattle.std.proofs.Common.{◌≡◌, ◌∙◌, ap, sym, Some}
use Rattle.control_heap_c.specs.declared.handle.Handle.{Handle}
use Rattle.control_heap_c.specs.Shared.{worker_at}
use Rattle.control_heap_c.proofs.shared.closing.give_back.Goals as goal

pub taken-requires : goal.taken-requires
taken-requires c s w home at =
    let now : c.args.worker.now.link.value ≡ Some c.replace-before.result =
    sym (ap (λ (h : Handle). h.link.value) c.replace.ensures.value) ∙ c.in-Some.ensures
    ∙ ap Some (sym c.replace-before.ensures.value) in
    c.requires s w home (ap worker_at now ∙ at)
