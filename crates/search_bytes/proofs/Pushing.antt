-- A found path's bits pushed: those of a node, those of the stack, and the bytes that the builder makes of them.
-- Assumes nothing.
use Prim.Native.Nat.{ℕ, zero, suc, ◌+◌, ◌-◌, ◌/◌, ◌≤◌, ◌<◌}
use mathlib.Core.Path.{◌≡◌, refl, sym, ap, ap₂, subst, ◌∙◌}
use mathlib.Core.Bool.{Bool, true, false}
use mathlib.Core.List.{List, [], ◌∷◌}
use native.Mathlib.Omega.{arith}
use lib.ListN.{length}
use lib.Seq.{take_all}
use Rattle.path.specs.Bytes.{odd, path_bytes}
use Rattle.path.proofs.BytesLaws.{length_path_bytes}
use Rattle.path_builder.specs.declared.PathBuilder.{PathBuilder}
use Rattle.path_builder.specs.Builder.{built, Sound, Fresh, Room, Pushed, Finished}
use Rattle.spec_search.specs.Search.{trail_bits}
use Rattle.search_list.specs.State.{trail, trues, trail_of, node_bits, path_at, node_at, place_at, extra_at, Readable}
use Rattle.search_list.proofs.Trails.{size_trues, readable_size}
use Rattle.search_bytes.specs.declared.node_bits.TakenBits.{TakenBits}
use Rattle.search_bytes.specs.Built.{with_number, with_stack, Taken, Holds, Fits}
use Rattle.search_bytes.proofs.Taking.{size_number}

pub one_holds : {s s' : List ℕ} {p p' : PathBuilder} {b : Bool} → Pushed s p b s' p' → Holds s' p' (b ∷ built s p)
one_holds u = record { sound = u.sound; bits_are = u.bits }

pub fits_fewer : {s : List ℕ} {m n : ℕ} → Fits s n → m ≤ n → Fits s m
fits_fewer f h = record { room = omega (arith, f.room); count = omega (arith, f.count) }

-- ---- bits pushed in a loop

-- So many bits are left to push, with which the builder holds `whole`, of n bits.
pub record Pushing (s₀ : List ℕ) (n : ℕ) (whole : List Bool) (s : List ℕ) (p : PathBuilder) (left : ℕ) (more : List Bool → List Bool) : Type 0 where
  pub len : length s ≡ length s₀
  pub sound : Sound s p
  pub size : left + length (built s p) ≡ n
  pub ahead : more (built s p) ≡ whole

pub push_start : (s : List ℕ) (p : PathBuilder) (left : ℕ) (more : List Bool → List Bool) → Sound s p → Pushing s (left + length (built s p)) (more (built s p)) s p left more
push_start s p left more h = record { len = refl; sound = h; size = refl; ahead = refl }

module _ {s₀ : List ℕ} {n : ℕ} {whole : List Bool} {s : List ℕ} {p : PathBuilder} {left : ℕ} {more : List Bool → List Bool} (m : Pushing s₀ n whole s p left more) where
  pub push_room : 0 < left → Fits s₀ n → Room s p
  push_room h f = record { bytes = omega (arith, m.size, m.len, f.room); count = omega (arith, m.size, f.count) }

  pub push_fits : {k : ℕ} → k ≤ left → Fits s₀ n → Fits s (k + length (built s p))
  push_fits h f = record { room = omega (arith, m.size, m.len, f.room); count = omega (arith, m.size, f.count) }

  pub push_more : {s' : List ℕ} {p' : PathBuilder} {bits : List Bool} (k : ℕ) (more' : List Bool → List Bool) → Holds s' p' bits → length s' ≡ length s
      → k + length bits ≡ left + length (built s p) → more' bits ≡ more (built s p) → Pushing s₀ n whole s' p' k more'
  push_more k more' h e l q =
      record { len = e ∙ m.len; sound = h.sound; size = ap (λ (b : List Bool). k + length b) h.bits_are ∙ l ∙ m.size; ahead = ap more' h.bits_are ∙ q ∙ m.ahead }

  pub push_end : more (built s p) ≡ built s p → Holds s p whole
  push_end e = record { sound = m.sound; bits_are = sym e ∙ m.ahead }

-- The lowest bit of a number is pushed first.
pub number_next : (left v : ℕ) (b : Bool) (bits : List Bool) → 0 < left → b ≡ odd v → with_number (left - 1) (v / 2) (b ∷ bits) ≡ with_number left v bits
number_next zero v b bits h e = absurd (omega arith)
number_next (suc left) v b bits h e =
    let q : suc left - 1 ≡ left = omega arith in
    ap₂ {C = List Bool} (λ (n : ℕ) (c : Bool). with_number n (v / 2) (c ∷ bits)) q e

trues_add : (k n : ℕ) (bits : List Bool) → trues k (trues n bits) ≡ trues (k + n) bits
trues_add zero n bits = let e : 0 + n ≡ n = omega arith in ap (λ (k : ℕ). trues k bits) (sym e)
trues_add (suc k) n bits = let e : suc k + n ≡ suc (k + n) = omega arith in ap (λ (l : List Bool). true ∷ l) (trues_add k n bits) ∙ ap (λ (j : ℕ). trues j bits) (sym e)

pub ones_next : (left k n : ℕ) (bits : List Bool) → k + n ≡ left → trues k (trues n bits) ≡ trues left bits
ones_next left k n bits e = trues_add k n bits ∙ ap (λ (j : ℕ). trues j bits) e

-- ---- a node's bits

none : (bits : List Bool) → length bits ≡ 0 → [] ≡ bits
none [] e = refl
none (b ∷ bits) e = absurd (omega arith)

pub no_bits : {s : List ℕ} {p : PathBuilder} (bits : List Bool) → Fresh p → length bits ≡ 0 → Holds s p bits
no_bits {s} bits f e = record { sound = f.sound s; bits_are = f.none s ∙ none bits e }

module _ {w : List ℕ} {a n : ℕ} {t : TakenBits} (k : Taken w a n t) where
  pub before_size : length (node_bits w a) ≡ n + length (node_bits w t.before)
  before_size = ap length k.bits_are ∙ size_number n t.number (node_bits w t.before)

  pub taken_fits : {s₀ s : List ℕ} {p : PathBuilder} → Fits s₀ (length (node_bits w a)) → length s ≡ length s₀ → Holds s p (node_bits w t.before)
      → Fits s (n + length (built s p))
  taken_fits f e h = record { room = omega (arith, f.room, before_size, ap length h.bits_are); count = omega (arith, f.count, before_size, ap length h.bits_are) }

  pub node_more : {s s' : List ℕ} {p p' : PathBuilder} → Holds s p (node_bits w t.before) → Holds s' p' (with_number n t.number (built s p))
      → Holds s' p' (node_bits w a)
  node_more h g = record { sound = g.sound; bits_are = g.bits_are ∙ ap (with_number n t.number) h.bits_are ∙ sym k.bits_are }

-- ---- the stack's

-- A builder whose next bit begins a byte.
module _ (s : List ℕ) (p : PathBuilder) (e : p.bit_pos ≡ 7) where
  abbrev begun : PathBuilder
  begun = record { in_use = p.in_use; bit_pos = 7 }

  same : p ≡ begun
  same = λ i. record { in_use = p.in_use; bit_pos = e i }

  pub byte_asks : Sound s p → Fits s (8 + length (built s p)) → (Sound s begun) × (Fits s (8 + length (built s begun)))
  byte_asks h f = subst (λ (q : PathBuilder). (Sound s q) × (Fits s (8 + length (built s q)))) same (h, f)

  pub byte_done : (s' : List ℕ) (p' : PathBuilder) → Holds s' p' (trues 8 (built s begun)) → Holds s' p' (trues 8 (built s p))
  byte_done s' p' h = subst (λ (q : PathBuilder). Holds s' p' (trues 8 (built s q))) (sym same) h

-- At most eight ones are bits of 0xff.
pub few_ones : (n : ℕ) (bits : List Bool) → n ≤ 8 → with_number n 0xff bits ≡ trues n bits
few_ones zero bits h = refl
few_ones (suc zero) bits h = refl
few_ones (suc (suc zero)) bits h = refl
few_ones (suc (suc (suc zero))) bits h = refl
few_ones (suc (suc (suc (suc zero)))) bits h = refl
few_ones (suc (suc (suc (suc (suc zero))))) bits h = refl
few_ones (suc (suc (suc (suc (suc (suc zero)))))) bits h = refl
few_ones (suc (suc (suc (suc (suc (suc (suc zero))))))) bits h = refl
few_ones (suc (suc (suc (suc (suc (suc (suc (suc zero)))))))) bits h = refl
few_ones (suc (suc (suc (suc (suc (suc (suc (suc (suc n))))))))) bits h = absurd (omega arith)

pub ones_hold : {s : List ℕ} {p : PathBuilder} (n : ℕ) (bits : List Bool) → n ≤ 8 → Holds s p (with_number n 0xff bits) → Holds s p (trues n bits)
ones_hold {s} {p} n bits h g = subst (Holds s p) (few_ones n bits h) g

-- After k ones there is room for m more.
pub ones_fits : (s₀ s : List ℕ) (p : PathBuilder) (bits : List Bool) (k m n : ℕ) → Fits s₀ (n + length bits) → length s ≡ length s₀ → Holds s p (trues k bits) → m + k ≤ n
    → Fits s (m + length (built s p))
ones_fits s₀ s p bits k m n f e h l =
    let z : length (built s p) ≡ k + length bits = ap length h.bits_are ∙ size_trues k bits in
    record { room = omega (arith, f.room); count = omega (arith, f.count) }

-- Ones after ones.
pub ones_more : {s s' : List ℕ} {p p' : PathBuilder} (bits : List Bool) (k m n : ℕ) → Holds s p (trues k bits) → Holds s' p' (trues m (built s p)) → m + k ≡ n
    → Holds s' p' (trues n bits)
ones_more bits k m n h g e = record { sound = g.sound; bits_are = g.bits_are ∙ ap (trues m) h.bits_are ∙ ones_next n m k bits e }

pub stack_none : (s : List ℕ) (p : PathBuilder) (x : ℕ) → x ≡ 0 → Sound s p → Holds s p (with_stack x (built s p))
stack_none s p x e h = rw e (record { sound = h; bits_are = refl })

pub stack_fits : {s s' : List ℕ} {p p' : PathBuilder} {b : Bool} {x : ℕ} → (x ≡ 0 → ⊥) → Fits s (x + length (built s p)) → length s' ≡ length s → Pushed s p b s' p'
    → Fits s' (x - 1 + length (built s' p'))
stack_fits d f e u = record { room = omega (arith, f.room, ap length u.bits); count = omega (arith, f.count, ap length u.bits) }

pub stack_more : {s s' s'' : List ℕ} {p p' p'' : PathBuilder} {x : ℕ} → (x ≡ 0 → ⊥) → Pushed s p false s' p' → Holds s'' p'' (trues (x - 1) (built s' p'))
    → Holds s'' p'' (with_stack x (built s p))
stack_more {s} {s'} {s''} {p} {p'} {p''} {x} d u h = go x d h
  where
    go : (x : ℕ) → (x ≡ 0 → ⊥) → Holds s'' p'' (trues (x - 1) (built s' p')) → Holds s'' p'' (with_stack x (built s p))
    go zero d h = absurd (d refl)
    go (suc x) d h =
        let e : suc x - 1 ≡ x = omega arith in
        record { sound = h.sound; bits_are = h.bits_are ∙ ap₂ {C = List Bool} trues e u.bits }

-- ---- the whole path

stack_bits : (x : ℕ) (bits : List Bool) (v : ℕ) → with_stack x bits ≡ trail_bits (trail x bits v)
stack_bits zero bits v = refl
stack_bits (suc x) bits v = refl

module _ {w : List ℕ} {i a x : ℕ} (r : Readable w i) (ea : a ≡ node_at w i) (ex : x ≡ extra_at w i) where
  path_is : with_stack x (node_bits w a) ≡ path_at w i
  unfolding trail_of
  path_is = ap₂ {C = List Bool} (λ (m n : ℕ). with_stack m (node_bits w n)) ex ea ∙ stack_bits (extra_at w i) (node_bits w (node_at w i)) (place_at w i)

  path_size : x + length (node_bits w a) ≡ length (path_at w i)
  path_size = rw (ea, ex) (omega (arith, readable_size w i r, r.len))

  module _ {out : List ℕ} (e : length out ≡ length (path_bytes (path_at w i))) where
    path_fits : Fits out (x + length (node_bits w a))
    path_fits = record { room = omega (arith, path_size, length_path_bytes (path_at w i)); count = omega (arith, path_size, readable_size w i r, r.short, r.extra) }

    pub node_fits : Fits out (length (node_bits w a))
    node_fits = let f = path_fits in record { room = omega (arith, f.room); count = omega (arith, f.count) }

    pub stack_asks : {p : PathBuilder} → Holds out p (node_bits w a) → Fits out (x + length (built out p))
    stack_asks h = let f = path_fits in record { room = omega (arith, f.room, ap length h.bits_are); count = omega (arith, f.count, ap length h.bits_are) }

  -- The bytes are all of the store.
  pub path_done : {s s' s'' : List ℕ} {p p' : PathBuilder} {n : ℕ} → Holds s p (node_bits w a) → Holds s' p' (with_stack x (built s p)) → Finished s' p' s'' n
      → length s'' ≡ length (path_bytes (path_at w i)) → s'' ≡ path_bytes (path_at w i)
  path_done {s} {s'} {s''} {p} {p'} {n} h k f e = sym (take_all n s'' (omega (arith, e, f.count, ap length bytes))) ∙ f.bytes ∙ bytes
    where
      bytes : path_bytes (built s' p') ≡ path_bytes (path_at w i)
      bytes = ap path_bytes (k.bits_are ∙ ap (with_stack x) h.bits_are ∙ path_is)
