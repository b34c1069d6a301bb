-- The bytes after a part of them was written, one by one.
use Rattle.std.proofs.Common.{◌≡◌, ℕ, ◌+◌, ◌-◌, ◌<◌, ◌≤◌, List, ◌++◌, length, get_or, take, drop, replicate, arith}
use Rattle.std.proofs.lemmas.List.{places}
use borrow.Rule.Slice.PartMut.{put_mid}

-- n bytes from a were written, and are ys now
module _ (a n : ℕ) (xs ys : List ℕ) (k : ℕ) where
  pub before-part : a ≤ length xs → k < a → get_or (put_mid a n xs ys) k 0 ≡ get_or xs k 0
  before-part l h = grind (arith, places)

  pub within-part : a ≤ length xs → length ys ≡ n → a ≤ k → k < a + n → get_or (put_mid a n xs ys) k 0 ≡ get_or ys (k - a) 0
  within-part l e g h = grind (arith, places)

  pub after-part : a ≤ length xs → length ys ≡ n → a + n ≤ k → get_or (put_mid a n xs ys) k 0 ≡ get_or xs k 0
  after-part l e h = grind (arith, places)

pub length-put : (a n : ℕ) (xs ys : List ℕ) → a + n ≤ length xs → length ys ≡ n → length (put_mid a n xs ys) ≡ length xs
length-put a n xs ys l e = grind (arith, places)

-- the first n bytes were made zero
module _ (n : ℕ) (xs ys : List ℕ) (k : ℕ) (l : n ≤ length xs) (e : ys ≡ replicate (length (take n xs)) 0) where
  pub zero-front : k < n → get_or (ys ++ drop n xs) k 0 ≡ 0
  zero-front h = grind (arith, places)

  pub past-front : n ≤ k → get_or (ys ++ drop n xs) k 0 ≡ get_or xs k 0
  past-front h = grind (arith, places)
