-- A reference put into the output: a byte, a prefix and a path's bytes.
-- Assumes nothing.
use Prim.Native.Nat.{ℕ, suc, ◌+◌, ◌-◌, ◌/◌, ◌≤◌, ◌<◌}
use mathlib.Core.Path.{◌≡◌, sym, ap, ◌∙◌}
use mathlib.Core.List.{List, [], ◌∷◌, ◌++◌}
use mathlib.Core.Option.{Option, some}
use mathlib.Core.Bool.{Bool, true}
use native.Mathlib.Omega.{arith}
use lib.ListN.{length, take, drop, set, length-drop}
use lib.Seq.{paste, length-take-le}
use Rattle.words.specs.BigEndian.{length_big_endian}
use Rattle.atom.specs.Prefix.{mark, prefix, prefix_width, encode}
use Rattle.atom.specs.Write.{next, full, put}
use Rattle.atom.specs.WriteLaws.{encode_some, length_encoded, put_full, put_room, paste_paste}
use Rattle.path.specs.Bytes.{path_bytes}
use Rattle.path.proofs.BytesLaws.{length_path_bytes}
use Rattle.search_list.specs.State.{path_at}
use Rattle.spec_session.specs.Items.{bytes_or_none, reference_item, item_bytes}
use Rattle.write_item.proofs.Puts.{set_paste}

module _ (out : List ℕ) (p b : ℕ) (atom : List ℕ) (w : ℕ) (e : prefix_width atom ≡ some w) where
  -- The bytes of a byte, a prefix and an atom.
  bytes_are : b ∷ bytes_or_none (encode atom) ≡ b ∷ (prefix w (length atom) ++ atom)
  bytes_are = ap (λ (o : Option (List ℕ)). b ∷ bytes_or_none o) (encode_some atom w e)

  bytes_long : length (b ∷ bytes_or_none (encode atom)) ≡ 1 + (w + length atom)
  bytes_long = ap length bytes_are ∙ omega (arith, length_encoded atom w e)

  -- No room for a byte, a prefix and an atom.
  pub put_marked_full : length out < p + (1 + (w + length atom)) → record { answer = full; output = out } ≡ put out p (some (b ∷ bytes_or_none (encode atom)))
  put_marked_full h = sym (put_full out p (b ∷ bytes_or_none (encode atom)) (omega (arith, bytes_long)))

  -- A byte, a prefix and an atom, one after the other.
  pub put_marked : (out₁ : List ℕ) → p + (1 + (w + length atom)) ≤ length out
      → out₁ ≡ paste (paste (set out p b) (p + 1) (prefix w (length atom)) w) (p + 1 + w) atom (length atom)
      → record { answer = next (p + (1 + (w + length atom))); output = out₁ } ≡ put out p (some (b ∷ bytes_or_none (encode atom)))
  put_marked out₁ h q =
      ap (λ (o : List ℕ). record { answer = next (p + (1 + (w + length atom))); output = o }) pasted
      ∙ ap (λ (k : ℕ). record { answer = next (p + k); output = paste out p whole k }) (sym long)
      ∙ sym (put_room out p whole (omega (arith, long))) ∙ ap (λ (l : List ℕ). put out p (some l)) (sym bytes_are)
    where
      pre : List ℕ
      pre = prefix w (length atom)

      whole : List ℕ
      whole = b ∷ (pre ++ atom)

      size : length pre ≡ w
      size = length_big_endian w (mark w + length atom)

      long : length whole ≡ 1 + (w + length atom)
      long = omega (arith, length_encoded atom w e)

      one_more : 1 + length pre ≡ suc (length pre)
      one_more = omega arith

      place : p + 1 + length pre ≡ p + suc (length pre)
      place = omega arith

      total : suc (length pre) + length atom ≡ 1 + (w + length atom)
      total = omega (arith, size)

      pasted : out₁ ≡ paste out p whole (1 + (w + length atom))
      pasted =
          q ∙ ap (λ (x : List ℕ). paste (paste x (p + 1) pre w) (p + 1 + w) atom (length atom)) (set_paste out p b (omega arith))
          ∙ ap (λ (k : ℕ). paste (paste (paste out p (b ∷ []) 1) (p + 1) pre k) (p + 1 + k) atom (length atom)) (sym size)
          ∙ ap (λ (x : List ℕ). paste x (p + 1 + length pre) atom (length atom)) (paste_paste out p (b ∷ []) pre (omega (arith, size)))
          ∙ ap (λ (k : ℕ). paste (paste out p (b ∷ pre) k) (p + 1 + length pre) atom (length atom)) one_more
          ∙ ap (λ (k : ℕ). paste (paste out p (b ∷ pre) (length (b ∷ pre))) k atom (length atom)) place
          ∙ paste_paste out p (b ∷ pre) atom (omega (arith, size))
          ∙ ap (λ (k : ℕ). paste out p whole k) total

-- ---- a path

module _ (w : List ℕ) (slot : ℕ) (out : List ℕ) (start count : ℕ) (e : count ≡ (length (path_at w slot) + 7) / 8) (h : start + count ≤ length out) where
  same : start + count - start ≡ count
  same = omega arith

  -- The part of the output that is lent is as long as the path.
  pub part_long : length (take (start + count - start) (drop start out)) ≡ length (path_bytes (path_at w slot))
  part_long =
      ap (λ (k : ℕ). length (take k (drop start out))) same ∙ length-take-le count (drop start out) (simp length-drop (omega arith))
      ∙ omega (arith, length_path_bytes (path_at w slot))

-- ---- a reference

-- The reference to a path of so many bits, and its prefix's width.
module _ (out : List ℕ) (p n w : ℕ) (bits path : List Bool) (e : bits ≡ path ++ true ∷ []) (size : n ≡ length bits)
    (wide : (path : List Bool) → n ≡ length (path ++ true ∷ []) → prefix_width (path_bytes (path ++ true ∷ [])) ≡ some w) where
  atom_long : (n + 7) / 8 ≡ length (path_bytes (path ++ true ∷ []))
  atom_long = ap (λ (k : ℕ). (k + 7) / 8) (size ∙ ap length e) ∙ sym (length_path_bytes (path ++ true ∷ []))

  atom_width : prefix_width (path_bytes (path ++ true ∷ [])) ≡ some w
  atom_width = wide path (size ∙ ap length e)

  pub reference_full : length out < p + (1 + (w + (n + 7) / 8)) → record { answer = full; output = out } ≡ put out p (some (item_bytes (reference_item path)))
  reference_full h = put_marked_full out p 0xfe (path_bytes (path ++ true ∷ [])) w atom_width (omega (arith, atom_long))

  pub reference_next : (out₁ : List ℕ) → p + (1 + (w + (n + 7) / 8)) ≤ length out
      → out₁ ≡ paste (paste (set out p 0xfe) (p + 1) (prefix w ((n + 7) / 8)) w) (p + 1 + w) (path_bytes bits) ((n + 7) / 8)
      → record { answer = next (p + (1 + (w + (n + 7) / 8))); output = out₁ } ≡ put out p (some (item_bytes (reference_item path)))
  reference_next out₁ h q =
      ap (λ (k : ℕ). record { answer = next (p + (1 + (w + k))); output = out₁ }) atom_long
      ∙ put_marked out p 0xfe (path_bytes (path ++ true ∷ [])) w atom_width out₁ (omega (arith, atom_long))
      (q ∙ ap (λ (l : List Bool). paste (paste (set out p 0xfe) (p + 1) (prefix w ((n + 7) / 8)) w) (p + 1 + w) (path_bytes l) ((n + 7) / 8)) e
      ∙ ap (λ (k : ℕ). paste (paste (set out p 0xfe) (p + 1) (prefix w k) w) (p + 1 + w) (path_bytes (path ++ true ∷ [])) k) atom_long)
