-- The path that a search gives, whatever the parents say: how many bits and bytes it has, and that its last bit, the terminator, is set, so that the first
-- byte is not 0 and no byte could be spared.
-- Assumes nothing.
use Rattle.std.specs.Prelude.{ℕ, ◌+◌, ◌≤◌, ◌<◌, ◌≡◌, refl, Bool, true, false, List, [], ◌∷◌, length, get_or}
use Rattle.std.proofs.Common.{sym, ap, subst, arith}
use Rattle.std.proofs.Math.Option.{some}
use Rattle.words.specs.Lists.{all_each}
use Rattle.path.specs.Bytes.{path_bytes}
use Rattle.path.proofs.BytesLaws.{path_bytes_first}
use Rattle.spec_search.specs.Search.{Trail, at_entry, at_stack, Parents, search}
use Rattle.spec_search.proofs.Induction.{Steps, step_ok, search_ok}
use Rattle.spec_search.proofs.Sound.{few}
use Rattle.spec_search.specs.PathBits.{Ends}

-- One bit more in front.
ends_more : (b : Bool) (bits : List Bool) → Ends bits → Ends (b ∷ bits)
ends_more b bits h = record { steps = b ∷ h.steps; ends = ap (λ (x : List Bool). b ∷ x) h.ends }

-- A path at an entry ends so with its position bit, and a path on the stack as it is.
abbrev TrailEnds : Trail → Type 0
TrailEnds (at_entry bits x pos) = Ends (pos ∷ bits)
TrailEnds (at_stack bits d) = Ends bits

module _ (parents : Parents) (stack : List ℕ) where
  ends_steps : Steps parents stack (λ seen. TrailEnds) (λ seen. TrailEnds) Ends
  ends_steps =
      record {
        arrives = λ seen bits h. h;
        nearer = λ seen bits d h. ends_more true bits h;
        upwards = λ seen bits x pos l h. all_each (λ (q : ℕ × Bool). Ends (q.1 ∷ pos ∷ bits)) (λ q. ends_more q.1 (pos ∷ bits) h) (parents x);
        sidewards = λ seen bits x pos l h d k. ends_more false (pos ∷ bits) h;
        later = λ seen x l q h. h;
      }

  module _ (len e : ℕ) (bits : List Bool) (q : search parents stack len e ≡ some bits) where
    -- The terminator stands last.
    pub search_ends : Ends bits
    search_ends =
        search_ok (λ seen. TrailEnds) Ends parents stack len e bits
        (λ L l seen p s h. step_ok parents stack (λ seen. TrailEnds) (λ seen. TrailEnds) Ends ends_steps seen p h) (record { steps = []; ends = refl }) q

    -- At most 1,024 bits, and one for each value of the stack.
    pub search_bits : length bits ≤ 1024 + length stack
    search_bits = few parents stack len e bits q

    -- With a stack of at most 4,096 values, at most 5,120 bits in 640 bytes.
    pub search_bits_most : length stack ≤ 4096 → length bits ≤ 5120
    search_bits_most h = omega (arith, search_bits)

    pub search_first_byte : 0 < get_or (path_bytes bits) 0 0
    search_first_byte = subst (λ (x : List Bool). 0 < get_or (path_bytes x) 0 0) (sym search_ends.ends) (path_bytes_first search_ends.steps)
