-- A front of a stream was read.
use Rattle.std.proofs.Common.{◌≡◌, ℕ, List, [], ◌∷◌, ◌++◌, take, drop, Option, Some, None, length, suc, ◌+◌, ◌≤◌, arith, refl, sym, ap, subst, ◌∙◌, append_assoc}
use Rattle.std.specs.Prelude.{IfSome}
use Rattle.std.proofs.lemmas.List.{take-append-drop}
use Rattle.trace_text.specs.declared.trace_faults.TraceFault.{TraceFault}
use Rattle.trace_text.specs.declared.trace_faults.TraceFault.TheVariants.{ReadFault, TooLong, BadLine, OutOfMemory}
use Rattle.trace_text.specs.Streams.{GivesFirst, IsAtEnd, StillTells, TookAtMost}
use Rattle.trace_text.specs.Inputs.{HasRead, Adds, TookFew}

-- nothing was read
pub begins : (now : Option (List ℕ)) → HasRead now [] now
begins None = tt
begins (Some bytes) = (bytes, refl, refl)

-- more was read
pub reads_on : (old mid new : Option (List ℕ)) (front more : List ℕ) (k : ℕ)
    → HasRead old front mid → IfSome mid (λ bytes. Adds k bytes front more new)
    → HasRead old more new
reads_on None mid new front more k h a = tt
reads_on (Some bytes) mid new front more k h a =
    let rest : List ℕ = h.0 in
    let added : Adds k rest front more new =
    subst (λ (m : Option (List ℕ)). IfSome m (λ b. Adds k b front more new)) h.2 a in
    let parts : front ++ rest ≡ more ++ drop k rest =
    ap (λ (r : List ℕ). front ++ r) (sym (take-append-drop k rest))
    ∙ sym (append_assoc front (take k rest) (drop k rest))
    ∙ ap (λ (m : List ℕ). m ++ drop k rest) (sym added.added) in
    (drop k rest, h.1 ∙ parts, added.rest)

pub tells_on : (old mid new : Option (List ℕ)) (front : List ℕ) → HasRead old front mid
    → StillTells mid new → StillTells old new
tells_on None mid new front h t = λ some. absurd cc
tells_on (Some bytes) mid new front h t = λ some. t (rw h.2 refl)

pub tells : (old new : Option (List ℕ)) (front : List ℕ) → HasRead old front new
    → StillTells old new
tells old new front h = tells_on old new new front h (λ some. some)

pub ends_on : (old mid new : Option (List ℕ)) (front : List ℕ) → HasRead old front mid
    → IsAtEnd mid new → IsAtEnd old new
ends_on None mid new front h e = tt
ends_on (Some bytes) mid new front h e = subst (λ (m : Option (List ℕ)). IsAtEnd m new) h.2 e

-- what was taken by one call
pub took : (old new : Option (List ℕ)) (piece : List ℕ) (k most : ℕ) → k ≤ most
    → IfSome old (λ bytes. GivesFirst k piece bytes new) → TookAtMost most old new
took None new piece k most few g = tt
took (Some bytes) new piece k most few g = (k, few, g.rest)

pub took_none : (most : ℕ) (old : Option (List ℕ)) → TookAtMost most old old
took_none most None = tt
took_none most (Some bytes) = (0, omega arith, refl)

drop_past : (front rest : List ℕ) (k : ℕ) → drop (k + length front) (front ++ rest) ≡ drop k rest
drop_past [] rest k = let e : k + 0 ≡ k = omega arith in ap (λ n. drop n rest) e
drop_past (x ∷ front) rest k =
    let e : k + suc (length front) ≡ suc (k + length front) = omega arith in
    ap (λ n. drop n (x ∷ (front ++ rest))) e ∙ drop_past front rest k

took_on : (old mid new : Option (List ℕ)) (front : List ℕ) (room most : ℕ)
    → length front + room ≤ most → HasRead old front mid → TookAtMost room mid new
    → TookAtMost most old new
took_on None mid new front room most few h t = tt
took_on (Some bytes) mid new front room most few h t =
    let taken : TookAtMost room (Some h.0) new =
    subst (λ (m : Option (List ℕ)). TookAtMost room m new) h.2 t in
    let past : drop (taken.0 + length front) bytes ≡ drop taken.0 h.0 =
    ap (drop (taken.0 + length front)) h.1 ∙ drop_past front h.0 taken.0 in
    (taken.0 + length front, omega (arith, taken.1), taken.2 ∙ ap Some (sym past))

-- the same after a front
pub few_on : (fault : TraceFault) (old mid new : Option (List ℕ)) (front : List ℕ) (room most : ℕ)
    → length front + room ≤ most → HasRead old front mid → TookFew fault room mid new
    → TookFew fault most old new
few_on ReadFault old mid new front room most few h t = took_on old mid new front room most few h t
few_on TooLong old mid new front room most few h t = tt
few_on (BadLine line why) old mid new front room most few h t = tt
few_on OutOfMemory old mid new front room most few h t = took_on old mid new front room most few h t
