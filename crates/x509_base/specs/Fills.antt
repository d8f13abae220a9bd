-- What a source of random bytes gives when it is asked for the same count of bytes again and again.
use Rattle.std.specs.Prelude.{◌≡◌, ◌≢◌, ℕ, zero, suc, ◌+◌, ◌<◌, Bool, ◌&&◌, nat_le, List, length, slice_index}
use Rattle.rand_core.specs.Stream.{Stream, fill_bytes}

-- what is left of the source after that many fills of size bytes
unfoldable pub after_fills : ℕ → Stream → ℕ → Stream
after_fills size source zero = source
after_fills size source (suc count) = (fill_bytes size (after_fills size source count)).1

-- the fill that comes after that many others
abbrev pub fill_after : ℕ → Stream → ℕ → List ℕ
fill_after size source count = (fill_bytes size (after_fills size source count)).0

-- each of the first fills begins with a zero
abbrev pub BeginWithZero : ℕ → Stream → ℕ → Type 0
BeginWithZero size source count = (k : ℕ) → k < count → slice_index (fill_after size source k) 0 ≡ 0

-- The first fill that doesn't begin with a zero is this one, it is among the first 64, and this is left of the source after it.
pub record Draws (size : ℕ) (source : Stream) (fill : List ℕ) (left : Stream) : Type 0 where
  pub earlier : ℕ
  pub within : earlier < 64
  pub zeros : BeginWithZero size source earlier
  pub is : fill ≡ fill_after size source earlier
  pub other : slice_index fill 0 ≢ 0
  pub rest : left ≡ after_fills size source (earlier + 1)

-- the first 64 fills begin with a zero, and this is left of the source after them
pub record GivesZeros (size : ℕ) (source left : Stream) : Type 0 where
  pub zeros : BeginWithZero size source 64
  pub rest : left ≡ after_fills size source 64

-- at least 8 random octets, which with those in front are at most 19
abbrev pub are_lengths : List ℕ → ℕ → Bool
are_lengths prefix random = nat_le 8 random && nat_le (length prefix + random) 19
