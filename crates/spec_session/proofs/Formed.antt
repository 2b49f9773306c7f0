-- The items of a session whose atoms are bytes, fewer than 2^34 each, have bytes.
-- Assumes nothing.
use Rattle.std.specs.Prelude.{ℕ, ◌+◌, ◌^◌, ◌≤◌, ◌<◌, ◌≡◌, refl, Bool, true, List, [], ◌∷◌, ◌++◌, length}
use Rattle.std.proofs.Common.{sym, ap, ◌∙◌, subst, arith, length-append}
use Rattle.std.proofs.Math.Option.{Option, none, some, none-ne-some, some-injective}
use Rattle.words.specs.Lists.{All, all_append, Bytes}
use Rattle.words.specs.BigEndian.{bytes_big_endian}
use Rattle.atom.specs.Prefix.{mark, prefix, prefix_width, encode}
use Rattle.atom.specs.WriteLaws.{encode_some, encode_none}
use Rattle.atom.specs.RoundTrip.{has_form}
use Rattle.path.specs.Bytes.{path_bytes}
use Rattle.path.proofs.BytesLaws.{length_path_bytes, bytes_path_bytes}
use Rattle.spec_session.specs.Items.{Item, cons_item, atom_item, reference_item, bytes_or_none, item_bytes, item_size, size_of, output}
use Rattle.spec_session.proofs.Output.{item_size_is}
use Rattle.spec_session.proofs.Kept.{Fine}
use Rattle.spec_session.proofs.BytesRead.{Formed, nonempty}

-- Bytes that a prefix can stand in front of.
abbrev pub Atom : List ℕ → Type 0
Atom bytes = (length bytes < 2 ^ 34) × Bytes bytes

-- Every atom of fewer than 2^34 bytes has a form.
pub encoded : (a : List ℕ) → length a < 2 ^ 34 → (b : List ℕ) × (encode a ≡ some b)
encoded a h = go (encode a) refl
  where
    go : (o : Option (List ℕ)) → encode a ≡ o → (b : List ℕ) × (encode a ≡ some b)
    go none e = absurd (has_form a h e)
    go (some b) e = (b, e)

bytes_encoded : (a b : List ℕ) → Bytes a → encode a ≡ some b → Bytes b
bytes_encoded a b h e = go (prefix_width a) refl
  where
    go : (o : Option ℕ) → prefix_width a ≡ o → Bytes b
    go none w = absurd (none-ne-some b (sym (encode_none a w) ∙ e))
    go (some w) q =
        subst Bytes (some-injective (prefix w (length a) ++ a) b (sym (encode_some a w q) ∙ e))
        (all_append (λ (x : ℕ). x < 256) (prefix w (length a)) a (bytes_big_endian w (mark w + length a)) h)

-- An item takes a byte at least, and the sizes add up.
pub atom_byte : (a : List ℕ) → length a < 2 ^ 34 → 1 ≤ length (item_bytes (atom_item a))
atom_byte a h = let e = encoded a h in omega (arith, nonempty a e.0 e.1, ap (λ (o : Option (List ℕ)). length (bytes_or_none o)) e.1)

item_byte : (i : Item) (n : ℕ) → Fine Atom n i → 1 ≤ item_size i
item_byte cons_item n f = omega arith
item_byte (atom_item a) n f = omega (arith, atom_byte a f.0, item_size_is (atom_item a))
item_byte (reference_item path) n f = omega arith

pub count_size : (items : List Item) (n : ℕ) → All (Fine Atom n) items → length items ≤ size_of items
count_size [] n f = omega arith
count_size (i ∷ items) n f = omega (arith, item_byte i n f.0, count_size items n f.1)

-- A path of fewer than 2^34 bits.
path_formed : (path : List Bool) → length path < 2 ^ 34 → length (path_bytes (path ++ true ∷ [])) < 2 ^ 34
path_formed path h = let l : length (path ++ true ∷ []) ≡ length path + 1 = simp length-append (omega arith) in omega (arith, length_path_bytes (path ++ true ∷ []), l)

module _ (n : ℕ) (few : n ≤ 65535) where
  item_formed : (i : Item) → Fine Atom n i → Formed i
  item_formed cons_item f = tt
  item_formed (atom_item a) f = encoded a f.0
  item_formed (reference_item path) f = encoded (path_bytes (path ++ true ∷ [])) (path_formed path (omega arith))

  item_is_bytes : (i : Item) → Fine Atom n i → Bytes (item_bytes i)
  item_is_bytes cons_item f = (omega arith, tt)
  item_is_bytes (atom_item a) f =
      let e = encoded a f.0 in
      subst (λ (o : Option (List ℕ)). Bytes (bytes_or_none o)) (sym e.1) (bytes_encoded a e.0 f.1 e.1)
  item_is_bytes (reference_item path) f =
      let p = path_bytes (path ++ true ∷ []) in
      let e = encoded p (path_formed path (omega arith)) in
      (omega arith, subst (λ (o : Option (List ℕ)). Bytes (bytes_or_none o)) (sym e.1) (bytes_encoded p e.0 (bytes_path_bytes (path ++ true ∷ [])) e.1))

  pub items_formed : (items : List Item) → All (Fine Atom n) items → All Formed items
  items_formed [] f = tt
  items_formed (i ∷ items) f = (item_formed i f.0, items_formed items f.1)

  pub items_bytes : (items : List Item) → All (Fine Atom n) items → Bytes (output items)
  items_bytes [] f = tt
  items_bytes (i ∷ items) f = all_append (λ (x : ℕ). x < 256) (item_bytes i) (output items) (item_is_bytes i f.0) (items_bytes items f.1)
