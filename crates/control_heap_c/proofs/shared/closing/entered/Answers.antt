use Rattle.std.proofs.Common.{◌≡◌, ◌∙◌, ap, sym, Some}
use Rattle.control_heap_c.specs.declared.handle.Handle.{Handle}
use Rattle.control_heap_c.specs.Groups.{home_in}
use Rattle.control_heap_c.proofs.shared.closing.entered.Goals as goal

pub added-after-requires : goal.added-after-requires
added-after-requires c s w home at =
    let now : c.args.group.now.link.value ≡ Some c.replace-in-Some.result =
    sym (ap (λ (h : Handle). h.link.value) c.replace.ensures.value) ∙ c.in-Some.ensures
    ∙ ap Some (sym c.replace-in-Some.ensures.value) in
    c.requires s w (ap home_in now ∙ home) at
