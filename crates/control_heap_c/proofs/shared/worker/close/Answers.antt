use Rattle.std.proofs.Common.{◌≡◌, ℕ, sym, ap, ◌∙◌}
use Rattle.std.specs.Prelude.{Some}
use Rattle.control_heap_c.specs.declared.handle.Handle.{Handle}
use Rattle.control_heap_c.specs.declared.owned.Owned.{Owned}
use Rattle.control_heap_c.specs.Shared.{shut_status}
use Rattle.control_heap_c.proofs.Shutting.{had_none, dropped, kept}
use Rattle.control_heap_c.proofs.shared.worker.close.Goals as goal

pub returns-in-None : goal.returns-in-None
returns-in-None c =
    had_none _ _ (ap (λ (h : Handle). h.link.value) (sym c.replace.ensures.value) ∙ c.in-None.ensures)
    (ap (λ (h : Handle). h.link.value) c.replace.ensures.after ∙ c.closed.ensures)

pub returns-then-status-eq0 : goal.returns-then-status-eq0
returns-then-status-eq0 c =
    dropped c.in-Some.owned.value _ _ _
    (ap (λ (h : Handle). h.link.value) (sym c.replace.ensures.value) ∙ c.in-Some.ensures)
    (c.shut_status-status.ensures ∙ ap (λ (x : Owned). shut_status (Some x)) c.deref.ensures)
    c.if-status-eq0.true
    (ap (λ (h : Handle). h.link.value) c.replace.ensures.after ∙ c.closed.ensures)

pub returns-else-status-eq0 : goal.returns-else-status-eq0
returns-else-status-eq0 c =
    kept c.in-Some.owned.value _ _ _
    (ap (λ (h : Handle). h.link.value) (sym c.replace.ensures.value) ∙ c.in-Some.ensures)
    (c.shut_status-status.ensures ∙ ap (λ (x : Owned). shut_status (Some x)) c.deref.ensures)
    c.if-status-eq0.false
    c.of.ensures
