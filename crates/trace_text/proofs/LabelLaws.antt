-- The tokens after the labels of a header.
use Rattle.std.proofs.Common.{◌≡◌, List, [], ◌∷◌, ℕ, codes, bytes_eq, Some, None, cond, inl, inr, refl, ap, subst, ◌∙◌}
use Rattle.std.proofs.lemmas.Option.{same_Some, some_pair_parts}
use Rattle.std.proofs.lemmas.Slice.Eq.{bytes_eq-Decides}
use Rattle.std.proofs.lemmas.Bool.{cases_Bool}
use Rattle.block_store.specs.declared.Width.{Width}
use Rattle.block_store.specs.declared.Width.TheVariants.{Four, Eight}
use Rattle.trace_text.specs.Reading.{◌>>=◌, parted, no_more_of}
use Rattle.trace_text.specs.Spellings.{version}
use Rattle.trace_text.specs.Headers.{behind_at, width_at, version_at, labelled_at, Labels, labels_at}
use Rattle.trace_text.proofs.NumberLaws.{then_some}
use Rattle.trace_text.proofs.Binds.{bind_some, bind_then}

pub parted_some : {A : Type 0} (xs : List A) (x : A) (others : List A)
    → parted xs ≡ Some (x, others) → xs ≡ x ∷ others
parted_some [] x others e = absurd cc
parted_some (y ∷ ys) x others e =
    let p = some_pair_parts y x ys others e in cc

pub parted_none : {A : Type 0} (xs : List A) → parted xs ≡ None → xs ≡ []
parted_none [] e = refl
parted_none (y ∷ ys) e = absurd cc

none_sound : (ps : List (List ℕ)) (x : Unit {0}) → no_more_of ps ≡ Some x → ps ≡ []
unfolding no_more_of
none_sound [] x e = refl
none_sound (p ∷ ps) x e = absurd cc

pub behind_sound : (word : List ℕ) (ps rest : List (List ℕ)) → behind_at word ps ≡ Some rest
    → ps ≡ word ∷ rest
unfolding behind_at
behind_sound word [] rest e = absurd cc
behind_sound word (first ∷ others) rest e =
    let t = then_some (bytes_eq first word) (Some others) rest e in
    let is : first ≡ word = (bytes_eq-Decides first word).0 t.0 in
    let same : others ≡ rest = same_Some others rest t.1 in
    cc

pub behind_complete : (word : List ℕ) (rest : List (List ℕ)) → behind_at word (word ∷ rest) ≡ Some rest
unfolding behind_at
behind_complete word rest = rw ((bytes_eq-Decides word word).1 refl) refl

pub labelled_sound : (label : List ℕ) (ps : List (List ℕ)) (x : List ℕ × List (List ℕ))
    → labelled_at label ps ≡ Some x → ps ≡ label ∷ x.0 ∷ x.1
unfolding labelled_at
labelled_sound label ps x e =
    let a = bind_some (behind_at label ps) parted x e in
    behind_sound label ps a.at a.first
    ∙ ap (λ (r : List (List ℕ)). label ∷ r) (parted_some a.at x.0 x.1 a.second)

pub labelled_complete : (label token : List ℕ) (rest : List (List ℕ))
    → labelled_at label (label ∷ token ∷ rest) ≡ Some (token, rest)
unfolding labelled_at
labelled_complete label token rest = rw (behind_complete label (token ∷ rest)) refl

width_sound : (token : List ℕ) (w : Width) → width_at token ≡ Some w → token ≡ version w
width_sound token w e = elim (cases_Bool (bytes_eq token (codes "1"))) [
  | inl one ↦ (bytes_eq-Decides token (codes "1")).0 one
      ∙ ap version (same_Some Four w
      (subst (λ b. cond b (Some Four) (cond (bytes_eq token (codes "2")) (Some Eight) None)
      ≡ Some w) one e))
  | inr not ↦
      let t = then_some (bytes_eq token (codes "2")) (Some Eight) w
      (subst (λ b. cond b (Some Four) (cond (bytes_eq token (codes "2")) (Some Eight) None)
      ≡ Some w) not e) in
      (bytes_eq-Decides token (codes "2")).0 t.0 ∙ ap version (same_Some Eight w t.1)
]

version_sound : (ps : List (List ℕ)) (x : Width × List (List ℕ)) → version_at ps ≡ Some x
    → ps ≡ version x.0 ∷ x.1
unfolding version_at
version_sound [] x e = absurd cc
version_sound (p ∷ ps) x e =
    let a = bind_some (width_at p) (λ w. Some (w, ps)) x e in
    let same : (a.at, ps) ≡ x = same_Some (a.at, ps) x a.second in
    ap (λ (q : List ℕ). q ∷ ps) (width_sound p a.at a.first)
    ∙ ap (λ (y : Width × List (List ℕ)). version y.0 ∷ y.1) same

-- the tokens of a header of this width with these five tokens after its labels
abbrev pub labels : Width → List ℕ → List ℕ → List ℕ → List ℕ → List ℕ → List (List ℕ)
labels w n m l b s =
    codes "rtheap" ∷ version w ∷ codes "threads" ∷ n ∷ codes "blocks" ∷ m ∷ codes "live" ∷ l
    ∷ codes "object" ∷ b ∷ codes "shared" ∷ s ∷ []

-- each part after the one before
joined : (w : Width) (n m l b s : List ℕ) (p0 p1 p2 p3 p4 p5 p6 p7 : List (List ℕ))
    → p0 ≡ codes "rtheap" ∷ p1 → p1 ≡ version w ∷ p2 → p2 ≡ codes "threads" ∷ n ∷ p3
    → p3 ≡ codes "blocks" ∷ m ∷ p4 → p4 ≡ codes "live" ∷ l ∷ p5 → p5 ≡ codes "object" ∷ b ∷ p6
    → p6 ≡ codes "shared" ∷ s ∷ p7 → p7 ≡ [] → p0 ≡ labels w n m l b s
joined w n m l b s p0 p1 p2 p3 p4 p5 p6 p7 e0 e1 e2 e3 e4 e5 e6 e7 =
    rw (e0, e1, e2, e3, e4, e5, e6, e7) refl

pub labels_sound : (ps : List (List ℕ)) (x : Labels) → labels_at ps ≡ Some x
    → ps ≡ labels x.0 x.1 x.2 x.3 x.4 x.5
unfolding labels_at
labels_sound ps x e =
    bind_then (behind_at (codes "rtheap") ps)
    (λ a. version_at a >>= λ b. labelled_at (codes "threads") b.1 >>= λ n. labelled_at
    (codes "blocks") n.1 >>= λ m. labelled_at (codes "live") m.1 >>= λ l. labelled_at
    (codes "object") l.1 >>= λ o. labelled_at
    (codes "shared") o.1 >>= λ s. no_more_of s.1 >>= λ z. Some
    (b.0, n.0, m.0, l.0, o.0, s.0)) x e (λ a is_a r0.
    bind_then (version_at a) (λ b. labelled_at (codes "threads") b.1 >>= λ n. labelled_at
    (codes "blocks") n.1 >>= λ m. labelled_at (codes "live") m.1 >>= λ l. labelled_at
    (codes "object") l.1 >>= λ o. labelled_at
    (codes "shared") o.1 >>= λ s. no_more_of s.1 >>= λ z. Some
    (b.0, n.0, m.0, l.0, o.0, s.0)) x r0 (λ b is_b r1.
    bind_then (labelled_at (codes "threads") b.1)
    (λ n. labelled_at (codes "blocks") n.1 >>= λ m. labelled_at
    (codes "live") m.1 >>= λ l. labelled_at (codes "object") l.1 >>= λ o. labelled_at
    (codes "shared") o.1 >>= λ s. no_more_of s.1 >>= λ z. Some
    (b.0, n.0, m.0, l.0, o.0, s.0)) x r1 (λ n is_n r2.
    bind_then (labelled_at (codes "blocks") n.1)
    (λ m. labelled_at (codes "live") m.1 >>= λ l. labelled_at
    (codes "object") l.1 >>= λ o. labelled_at
    (codes "shared") o.1 >>= λ s. no_more_of s.1 >>= λ z. Some
    (b.0, n.0, m.0, l.0, o.0, s.0)) x r2 (λ m is_m r3.
    bind_then (labelled_at (codes "live") m.1)
    (λ l. labelled_at (codes "object") l.1 >>= λ o. labelled_at
    (codes "shared") o.1 >>= λ s. no_more_of s.1 >>= λ z. Some
    (b.0, n.0, m.0, l.0, o.0, s.0)) x r3 (λ l is_l r4.
    bind_then (labelled_at (codes "object") l.1)
    (λ o. labelled_at (codes "shared") o.1 >>= λ s. no_more_of s.1 >>= λ z. Some
    (b.0, n.0, m.0, l.0, o.0, s.0)) x r4 (λ o is_o r5.
    bind_then (labelled_at (codes "shared") o.1)
    (λ s. no_more_of s.1 >>= λ z. Some (b.0, n.0, m.0, l.0, o.0, s.0)) x r5 (λ s is_s r6.
    bind_then (no_more_of s.1) (λ z. Some (b.0, n.0, m.0, l.0, o.0, s.0)) x r6 (λ z is_z r7.
    (subst (λ (y : Labels). ps ≡ labels y.0 y.1 y.2 y.3 y.4 y.5)
    (same_Some (b.0, n.0, m.0, l.0, o.0, s.0) x r7)
    (joined b.0 n.0 m.0 l.0 o.0 s.0 ps a b.1 n.1 m.1 l.1 o.1 s.1
    (behind_sound (codes "rtheap") ps a is_a) (version_sound a b is_b)
    (labelled_sound (codes "threads") b.1 n is_n)
    (labelled_sound (codes "blocks") n.1 m is_m) (labelled_sound (codes "live") m.1 l is_l)
    (labelled_sound (codes "object") l.1 o is_o) (labelled_sound (codes "shared") o.1 s is_s)
    (none_sound s.1 z is_z)))))))))))

pub labels_complete : (w : Width) (n m l b s : List ℕ)
    → labels_at (labels w n m l b s) ≡ Some (w, n, m, l, b, s)
unfolding labels_at behind_at version_at labelled_at no_more_of
labels_complete Four n m l b s = refl
labels_complete Eight n m l b s = refl
