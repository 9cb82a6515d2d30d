-- What the numbers of a call say.
use Rattle.std.proofs.Common.{◌≡◌, ℕ, suc, List, [], ◌∷◌, refl, sym, ap, ◌∙◌, subst, arith}
use Rattle.std.specs.Prelude.{Option, Some, None, Result, Ok, Err}
use Rattle.block_store.specs.declared.Config.{Config}
use Rattle.block_store.specs.declared.Width.{Width}
use Rattle.block_store.specs.declared.Value.TheVariants as values
use Rattle.never_heap.specs.declared.Command.{Command}
use Rattle.never_heap.specs.declared.Reply.{Reply}
use Rattle.never_heap.specs.declared.Reply.TheVariants as replies
use Rattle.control_heap.specs.declared.control.OpenFault.TheVariants as faults
use Rattle.control_heap.specs.declared.control.Refused.TheVariants as refused
use Rattle.control_heap.specs.Controls.{Control, AllAnswered}
use Rattle.control_heap_c.specs.declared.answer.Answer.{Answer}
use Rattle.control_heap_c.specs.declared.answer.Refusal.{Refusal}
use Rattle.control_heap_c.specs.declared.answer.Refusal.TheVariants as refusals
use Rattle.control_heap_c.specs.declared.handle.OpenRefusal.{OpenRefusal}
use Rattle.control_heap_c.specs.declared.handle.OpenRefusal.TheVariants as opening
use Rattle.control_heap_c.specs.declared.owned.Owned.{Owned}
use Rattle.control_heap_c.specs.declared.owned.Owned.TheVariants.{Heap}
use Rattle.control_heap_c.specs.Outcomes.{Answered, Called, Became, BecameOpen, IsAnswered, IsNotAsked, IsNotOpened, IsOpened, AllCalled, Opened, config_of, heap_in, open_refusal_in, open_status, refusal_in, reply_in, status_of, told, written}

pub read_back : (a : Reply) → reply_in (written a) ≡ Some a
read_back (replies.New n) = refl
read_back (replies.Full c) = refl
read_back replies.Stored = refl
read_back (replies.Val values.Nil) = refl
read_back (replies.Val (values.Int n)) = refl
read_back (replies.Val (values.Ref n)) = refl
read_back (replies.Len n) = refl
read_back replies.Yes = refl
read_back replies.No = refl
read_back replies.Null = refl
read_back replies.Kind = refl
read_back replies.Range = refl
read_back replies.Idle = refl

pub refusal_back : (e : Refusal) → refusal_in (status_of (Err e)) ≡ Some e
refusal_back refusals.Closed = refl
refusal_back (refusals.Heap refused.OutOfBounds) = refl
refusal_back (refusals.Heap refused.NoLifeLeft) = refl

abbrev inner : Reply → Option Reply → Reply
inner d None = d
inner d (Some a) = a

same : (a b : Reply) → written a ≡ written b → a ≡ b
same a b e = ap (inner a) (sym (read_back a) ∙ ap reply_in e ∙ read_back b)

no_refusal : (e : Refusal) → 0 ≡ status_of (Err e) → ⊥
no_refusal refusals.Closed z = omega (arith, z)
no_refusal (refusals.Heap refused.OutOfBounds) z = omega (arith, z)
no_refusal (refusals.Heap refused.NoLifeLeft) z = omega (arith, z)

is_answered : (k : Command) (old new : Option Owned) (before after : Answer) (o : Result Reply Refusal)
    → Became old k o new → 0 ≡ status_of o → after ≡ told o before
    → (a : Reply) × (after ≡ written a) × IsAnswered (heap_in old) k a (heap_in new)
is_answered k old new before after (Ok a) b z w = (a, w, b)
is_answered k old new before after (Err e) b z w = absurd (no_refusal e z)

is_refused : (k : Command) (old new : Option Owned) (before after : Answer) (s : ℕ) (o : Result Reply Refusal)
    → Became old k o new → suc s ≡ status_of o → after ≡ told o before
    → (e : Refusal) × (refusal_in (suc s) ≡ Some e) × IsNotAsked (heap_in old) k e × (new ≡ old) × (after ≡ before)
is_refused k old new before after s (Ok a) b z w = absurd (omega (arith, z))
is_refused k old new before after s (Err e) b z w = (e, ap refusal_in z ∙ refusal_back e, b.0, b.1, w)

pub answered : (k : Command) (old new : Option Owned) (before after : Answer) → Called k old new before after 0
    → (a : Reply) × (after ≡ written a) × IsAnswered (heap_in old) k a (heap_in new)
answered k old new before after c = is_answered k old new before after c.outcome c.became c.status_is c.answer_is

pub refused_so : (k : Command) (old new : Option Owned) (before after : Answer) (s : ℕ)
    → Called k old new before after (suc s)
    → (e : Refusal) × (refusal_in (suc s) ≡ Some e) × IsNotAsked (heap_in old) k e × (new ≡ old) × (after ≡ before)
refused_so k old new before after s c = is_refused k old new before after s c.outcome c.became c.status_is c.answer_is

by_reply : (h n : Control) (k : Command) (a : Reply) → (x : Reply) × (written a ≡ written x) × IsAnswered (Some h) k x (Some n)
    → Answered h n k a
by_reply h n k a x = subst (λ (y : Reply). Answered h n k y) (sym (same a x.0 x.1)) x.2

pub requests : (h z : Control) (ks : List Command) (ys : List Reply) → AllCalled h ks ys z → AllAnswered h ks ys z
requests h z [] [] e = e
requests h z [] (a ∷ ys) e = absurd e
requests h z (k ∷ ks) [] e = absurd e
requests h z (k ∷ ks) (a ∷ ys) (n, before, call, rest) =
    let x : Answered h n k a = by_reply h n k a (answered k (Some (Heap h)) (Some (Heap n)) before (written a) call) in
    (n, x.config, x.answered, requests n z ks ys rest)

-- ---- opening

pub opening_back : (e : OpenRefusal) → open_refusal_in (open_status (Some e)) ≡ Some e
opening_back opening.Open = refl
opening_back opening.Version = refl
opening_back (opening.Heap faults.OutOfBounds) = refl
opening_back (opening.Heap faults.NotOneThread) = refl
opening_back (opening.Heap faults.LiveTooSmall) = refl
opening_back (opening.Heap faults.NoRate) = refl
opening_back (opening.Heap faults.NoMemory) = refl

no_cause : (e : OpenRefusal) → 0 ≡ open_status (Some e) → ⊥
no_cause opening.Open z = omega (arith, z)
no_cause opening.Version z = omega (arith, z)
no_cause (opening.Heap faults.OutOfBounds) z = omega (arith, z)
no_cause (opening.Heap faults.NotOneThread) z = omega (arith, z)
no_cause (opening.Heap faults.LiveTooSmall) z = omega (arith, z)
no_cause (opening.Heap faults.NoRate) z = omega (arith, z)
no_cause (opening.Heap faults.NoMemory) z = omega (arith, z)

is_opened : (w : Option Width) (c : Width → Config) (old new : Option Owned) (o : Option OpenRefusal)
    → BecameOpen old w c o new → 0 ≡ open_status o → (old ≡ None) × IsOpened w c (heap_in new)
is_opened w c None new None b z = (refl, b)
is_opened w c (Some h) new None b z = absurd b
is_opened w c None new (Some e) b z = absurd (no_cause e z)
is_opened w c (Some h) new (Some e) b z = absurd (no_cause e z)

is_not_opened : (w : Option Width) (c : Width → Config) (old new : Option Owned) (s : ℕ) (o : Option OpenRefusal)
    → BecameOpen old w c o new → suc s ≡ open_status o
    → (e : OpenRefusal) × (open_refusal_in (suc s) ≡ Some e) × IsNotOpened old w c e × (new ≡ old)
is_not_opened w c old new s None b z = absurd (omega (arith, z))
is_not_opened w c None new s (Some e) b z = (e, ap open_refusal_in z ∙ opening_back e, b.0, b.1)
is_not_opened w c (Some h) new s (Some e) b z = (e, ap open_refusal_in z ∙ opening_back e, b.0, b.1)

pub opened : (w : Option Width) (c : Width → Config) (old new : Option Owned) → Opened w c old new 0
    → (old ≡ None) × IsOpened w c (heap_in new)
opened w c old new o = is_opened w c old new o.refusal o.became o.status_is

pub opened_not : (w : Option Width) (c : Width → Config) (old new : Option Owned) (s : ℕ) → Opened w c old new (suc s)
    → (e : OpenRefusal) × (open_refusal_in (suc s) ≡ Some e) × IsNotOpened old w c e × (new ≡ old)
opened_not w c old new s o = is_not_opened w c old new s o.refusal o.became o.status_is

-- a configuration of one thread is not refused for having several
not_for_threads : (w : Option Width) (blocks live object shared : ℕ) (old : Option Owned)
    → IsNotOpened old w (λ x. config_of x blocks live object shared) (opening.Heap faults.NotOneThread) → ⊥
not_for_threads None blocks live object shared None n = n
not_for_threads (Some w) blocks live object shared None n = n.1 refl
not_for_threads None blocks live object shared (Some h) n = n
not_for_threads (Some w) blocks live object shared (Some h) n = n

abbrev cause : Option OpenRefusal → OpenRefusal
cause None = opening.Open
cause (Some e) = e

pub one_thread : (w : Option Width) (blocks live object shared : ℕ) (old new : Option Owned)
    → ¬ Opened w (λ x. config_of x blocks live object shared) old new 9
one_thread w blocks live object shared old new o =
    let t = opened_not w (λ x. config_of x blocks live object shared) old new 8 o in
    not_for_threads w blocks live object shared old
    (subst (λ (e : OpenRefusal). IsNotOpened old w (λ x. config_of x blocks live object shared) e) (sym (ap cause t.1)) t.2)

-- no cause has status 15
pub enough : (w : Option Width) (c : Width → Config) (old new : Option Owned) → ¬ Opened w c old new 15
enough w c old new o =
    let t = opened_not w c old new 14 o in
    let z : None ≡ Some t.0 = t.1 in cc
