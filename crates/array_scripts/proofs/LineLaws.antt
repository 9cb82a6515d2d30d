-- What a line of a script says is what is spelled so, and what is spelled is read again, where this
-- holds of each operation.
use Rattle.std.proofs.Common.{◌≡◌, ℕ, ◌<◌, ◌≤◌, ◌^◌, ◌==◌, ◌&&◌, ltb, Bool, true, false, cond, Option, Some, None, List, [], ◌∷◌, length, codes, decimal, eq-eqb, refl, ap, ◌∙◌, subst, arith}
use Rattle.std.proofs.lemmas.Bool.{eqb-true, ltb-true, lt-ltb}
use Rattle.std.proofs.lemmas.Option.{cond_some}
use Rattle.array_scripts.specs.scripts.Scripts.{Said, Thread, Told, End, Language, line_of, Stands, Reads}
use Rattle.array_scripts.proofs.scripts.ScriptOrBadLine.{some_is}
use Rattle.trace_text.specs.Headers.{behind_at, labelled_at}
use Rattle.trace_text.specs.Reading.{◌>>=◌, number_at, no_more_of, one_token_of}
use Rattle.trace_text.proofs.NumberLaws.{number_sound, number_complete}
use Rattle.trace_text.proofs.Binds.{bind_then}
use Rattle.array_scripts.specs.declared.header.Header.{Header}
use Rattle.array_scripts.specs.Kinds.{Kind, Tokens, header_line, IsHeader, Fits, ranged, header_at, thread_at, end_at, told_at, line_at, language}
use Rattle.array_scripts.proofs.TokenLaws.{and_parts, chosen, ranged_sound, ranged_again, none_of, one_of}
use Rattle.trace_text.proofs.LabelLaws.{behind_complete, behind_sound, labelled_complete, labelled_sound}

-- What a kind owes: of its operations each is read as it is spelled, where it may come, and no
-- line of one begins as that of a thread or the end does.
pub record ReadsOps {Op : Type 0} (kind : Kind Op) : Type 0 where
  pub few_places : kind.most_places < 10 ^ 19
  pub sound : (n : ℕ) (before : List Op) (line : Tokens) (op : Op)
      → kind.op_at n before line ≡ Some op
      → (line ≡ kind.op_line op) × kind.CanStand n before op
  pub again : (n : ℕ) (before : List Op) (op : Op) → n ≤ kind.most_places
      → kind.CanStand n before op → kind.op_at n before (kind.op_line op) ≡ Some op
  pub apart : (h : Header) (t : ℕ) (before : List Op) (op : Op)
      → line_at kind h t before (kind.op_line op) ≡ told_at kind h t before (kind.op_line op)

module _ {Op : Type 0} (kind : Kind Op) (reads : ReadsOps kind) where
  abbrev lang : Language Tokens Header (List Op) Op
  lang = language kind

  -- ---- the header

  header_sound : (l : Tokens) (h : Header)
      → header_at kind.name kind.label kind.most_places l ≡ Some h
      → (l ≡ header_line kind h) × IsHeader kind h
  unfolding header_at no_more_of
  header_sound l h e =
      bind_then (behind_at kind.name l) _ h e (λ r1 is1 e1.
      bind_then (behind_at (codes "1") r1) _ h e1 (λ r2 is2 e2.
      bind_then (labelled_at (codes "threads") r2) _ h e2 (λ r3 is3 e3.
      bind_then (labelled_at kind.label r3.1) _ h e3 (λ r4 is4 e4.
      bind_then (labelled_at (codes "blocks") r4.1) _ h e4 (λ r5 is5 e5.
      bind_then (no_more_of r5.1) _ h e5 (λ u is6 e6.
      bind_then (ranged 1 16 r3.0) _ h e6 (λ n is7 e7.
      bind_then (ranged 1 kind.most_places r4.0) _ h e7 (λ size is8 e8.
      bind_then (ranged 1 65535 r5.0) _ h e8 (λ m is9 e9.
      header_of l h r1 r2 r3 r4 r5 n size m (behind_sound kind.name l r1 is1)
      (behind_sound (codes "1") r1 r2 is2) (labelled_sound (codes "threads") r2 r3 is3)
      (labelled_sound kind.label r3.1 r4 is4) (labelled_sound (codes "blocks") r4.1 r5 is5)
      (none_of r5.1 u is6) (ranged_sound 1 16 r3.0 n is7)
      (ranged_sound 1 kind.most_places r4.0 size is8) (ranged_sound 1 65535 r5.0 m is9)
      (some_is e9))))))))))
    where
      header_of : (l : Tokens) (h : Header) (r1 r2 : Tokens) (r3 r4 r5 : List ℕ × Tokens)
          (n size m : ℕ)
          → l ≡ kind.name ∷ r1 → r1 ≡ codes "1" ∷ r2 → r2 ≡ codes "threads" ∷ r3.0 ∷ r3.1
          → r3.1 ≡ kind.label ∷ r4.0 ∷ r4.1 → r4.1 ≡ codes "blocks" ∷ r5.0 ∷ r5.1 → r5.1 ≡ []
          → (r3.0 ≡ decimal n) × (1 ≤ n) × (n ≤ 16)
          → (r4.0 ≡ decimal size) × (1 ≤ size) × (size ≤ kind.most_places)
          → (r5.0 ≡ decimal m) × (1 ≤ m) × (m ≤ 65535)
          → record { threads = n; places = size; blocks = m } ≡ h
          → (l ≡ header_line kind h) × IsHeader kind h
      header_of l h r1 r2 r3 r4 r5 n size m p1 p2 p3 p4 p5 p6 a b c e =
          subst (λ (x : Header). (l ≡ header_line kind x) × IsHeader kind x) e (
            p1 ∙ ap (λ (x : Tokens). kind.name ∷ x) (p2 ∙ ap (λ (x : Tokens). codes "1" ∷ x) (p3
                ∙ (λ k. codes "threads" ∷ a.0 k ∷ p4 k)
                ∙ (λ k. codes "threads" ∷ decimal n ∷ kind.label ∷ b.0 k ∷ p5 k)
                ∙ (λ k. codes "threads" ∷ decimal n ∷ kind.label ∷ decimal size ∷ codes "blocks"
                ∷ c.0 k ∷ p6 k))),
            record {
              some_thread = a.1;
              threads = a.2;
              some_place = b.1;
              places = b.2;
              some_block = c.1;
              blocks = c.2;
            },
          )

  header_again : (h : Header) → IsHeader kind h
      → header_at kind.name kind.label kind.most_places (header_line kind h) ≡ Some h
  unfolding header_at no_more_of
  header_again h is =
      ap (λ o. o >>= λ r. behind_at (codes "1") r >>= rest_of) (behind_complete kind.name _)
      ∙ ap (λ o. o >>= rest_of) (behind_complete (codes "1") _)
      ∙ ap (λ o. o >>= places_of) (labelled_complete (codes "threads") _ _)
      ∙ ap (λ o. o >>= blocks_of (decimal h.threads)) (labelled_complete kind.label _ _)
      ∙ ap (λ o. o >>= numbers_of (decimal h.threads) (decimal h.places))
      (labelled_complete (codes "blocks") _ _)
      ∙ ap (λ o. o >>= λ n. ranged 1 kind.most_places (decimal h.places) >>= λ size.
      ranged 1 65535 (decimal h.blocks) >>= λ m. Some (make n size m))
      (ranged_again 1 16 h.threads is.some_thread is.threads (omega arith))
      ∙ ap (λ o. o >>= λ size. ranged 1 65535 (decimal h.blocks) >>= λ m.
      Some (make h.threads size m))
      (ranged_again 1 kind.most_places h.places is.some_place is.places reads.few_places)
      ∙ ap (λ o. o >>= λ m. Some (make h.threads h.places m))
      (ranged_again 1 65535 h.blocks is.some_block is.blocks (omega arith))
    where
      make : ℕ → ℕ → ℕ → Header
      make n size m = record { threads = n; places = size; blocks = m }

      numbers_of : List ℕ → List ℕ → List ℕ × Tokens → Option Header
      numbers_of threads places blocks =
          no_more_of blocks.1 >>= λ _. ranged 1 16 threads >>= λ n.
          ranged 1 kind.most_places places >>= λ size. ranged 1 65535 blocks.0 >>= λ m.
          Some (make n size m)

      blocks_of : List ℕ → List ℕ × Tokens → Option Header
      blocks_of threads places =
          labelled_at (codes "blocks") places.1 >>= numbers_of threads places.0

      places_of : List ℕ × Tokens → Option Header
      places_of threads = labelled_at kind.label threads.1 >>= blocks_of threads.0

      rest_of : Tokens → Option Header
      rest_of rest = labelled_at (codes "threads") rest >>= places_of

  -- ---- the other lines

  abbrev Sound : Header → ℕ → List Op → Tokens → Said Op → Type 0
  Sound h t before l x =
      (l ≡ line_of lang x) × Stands lang (IsHeader kind) (Fits kind) h t before x

  thread_sound : (h : Header) (t : ℕ) (before : List Op) (first : List ℕ) (tokens : Tokens)
      (x : Said Op) → first ≡ codes "thread" → thread_at h t tokens ≡ Some x
      → Sound h t before (first ∷ tokens) x
  unfolding thread_at
  thread_sound h t before first tokens x is e =
      bind_then (one_token_of tokens) _ x e (λ token is1 e1.
      bind_then (number_at token) _ x e1 (λ u is2 e2.
      let kept = cond_some ((u == t) && ltb t h.threads) (Thread u) x e2 in
      let parts = and_parts (u == t) (ltb t h.threads) kept.0 in
      subst (λ (y : Said Op). Sound h t before (first ∷ tokens) y) kept.1 (
        (λ k. is k ∷ (one_of tokens token is1
            ∙ ap (λ (z : List ℕ). z ∷ []) (number_sound token u is2).0) k),
        (eqb-true u t parts.0, ltb-true t h.threads parts.1),
      )))

  end_sound : (h : Header) (t : ℕ) (before : List Op) (first : List ℕ) (tokens : Tokens)
      (x : Said Op) → first ≡ codes "end" → end_at h t tokens ≡ Some x
      → Sound h t before (first ∷ tokens) x
  unfolding end_at
  end_sound h t before first tokens x is e =
      bind_then (no_more_of tokens) _ x e (λ u is1 e1.
      let kept = cond_some (t == h.threads) End x e1 in
      subst (λ (y : Said Op). Sound h t before (first ∷ tokens) y) kept.1
      ((λ k. is k ∷ none_of tokens u is1 k), eqb-true t h.threads kept.0))

  told_sound : (h : Header) (t : ℕ) (before : List Op) (line : Tokens) (x : Said Op)
      → told_at kind h t before line ≡ Some x → Sound h t before line x
  unfolding told_at
  told_sound h t before line x e = go (ltb 0 t && ltb (length before) kind.most) refl e
    where
      go : (b : Bool) → ltb 0 t && ltb (length before) kind.most ≡ b
          → cond b (kind.op_at h.places before line >>= (λ op. Some (Told op))) None ≡ Some x
          → Sound h t before line x
      go false is f = absurd cc
      go true is f =
          let parts = and_parts (ltb 0 t) (ltb (length before) kind.most) is in
          bind_then (kind.op_at h.places before line) _ x f (λ op said f1.
          let s = reads.sound h.places before line op said in
          subst (λ (y : Said Op). Sound h t before line y) (some_is f1)
          (s.0, (ltb-true 0 t parts.0, (ltb-true (length before) kind.most parts.1, s.1))))

  line_sound : (h : Header) (t : ℕ) (before : List Op) (l : Tokens) (x : Said Op)
      → line_at kind h t before l ≡ Some x → Sound h t before l x
  unfolding line_at
  line_sound h t before [] x e = absurd cc
  line_sound h t before (first ∷ tokens) x e =
      chosen first (codes "thread") _ _ x e (thread_sound h t before first tokens x) (λ e1.
      chosen first (codes "end") _ _ x e1 (end_sound h t before first tokens x)
      (told_sound h t before (first ∷ tokens) x))

  -- and what is spelled is read
  told_again : (h : Header) (t : ℕ) (before : List Op) (op : Op) → IsHeader kind h → 0 < t
      → Fits kind h before op
      → told_at kind h t before (kind.op_line op) ≡ Some (Told op)
  unfolding told_at
  told_again h t before op is some fits =
      (λ k. cond (lt-ltb 0 t some k && lt-ltb (length before) kind.most fits.0 k)
      (kind.op_at h.places before (kind.op_line op) >>= (λ op. Some (Told op))) None)
      ∙ ap (λ o. o >>= (λ op. Some (Told op))) (reads.again h.places before op is.places fits.1)

  line_again : (h : Header) (t : ℕ) (before : List Op) (x : Said Op)
      → IsHeader kind h → Stands lang (IsHeader kind) (Fits kind) h t before x
      → line_at kind h t before (line_of lang x) ≡ Some x
  unfolding line_at thread_at end_at no_more_of one_token_of
  line_again h t before (Thread u) is s =
      ap (λ o. o >>= λ u. cond ((u == t) && ltb t h.threads) (Some (Thread u)) None)
      (number_complete u (omega (arith, s.0, s.1, is.threads)))
      ∙ (λ k. cond (eq-eqb u t s.0 k && lt-ltb t h.threads s.1 k) (Some (Thread u)) None)
  line_again h t before End is s = ap (λ b. cond b (Some End) None) (eq-eqb t h.threads s)
  line_again h t before (Told op) is s =
      reads.apart h t before op ∙ told_again h t before op is s.0 s.1

  pub kind_reads : Reads lang (IsHeader kind) (Fits kind)
  kind_reads = record {
    header_sound = header_sound;
    header_again = header_again;
    line_sound = line_sound;
    line_again = line_again;
  }
