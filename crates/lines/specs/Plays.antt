-- Lists of calls of a line, and the law that each pair is a queue.
use Rattle.std.specs.Prelude.{◌≡◌, ℕ, Bool, true, cond, List, [], ◌∷◌, ◌++◌, length, Ok, Err, Result, nat_lt}
use Rattle.lines.specs.declared.line.Full.{Full}
use Rattle.lines.specs.declared.message.Message.{Message}
use Rattle.lines.specs.declared.play.LineAnswer.{LineAnswer}
use Rattle.lines.specs.declared.play.LineAnswer.TheVariants.{Counted, Posted, Taken}
use Rattle.lines.specs.declared.play.LineCall.{LineCall}
use Rattle.lines.specs.declared.play.LineCall.TheVariants.{Count, Post, Take}
use Rattle.lines.specs.Lists.{Lists, fits, inside, oldest, posted, same, taken, younger}

-- ---- a line of that limit

-- what a post answers where there is room, and where there is none
abbrev pub put : Bool → Result (Unit {0}) Full
put room = cond room (Ok tt) (Err record {})

-- what a call answers where these messages wait,
abbrev pub told : ℕ → Lists → LineCall → LineAnswer
told limit W (Post from to m) = Posted (put (fits limit W from to))
told limit W (Take from to) = Taken (oldest (W from to))
told limit W (Count from to) = Counted (length (W from to))

-- and which messages wait after it
abbrev pub served : ℕ → Lists → LineCall → Lists
served limit W (Post from to m) = posted limit W from to m
served limit W (Take from to) = taken W from to
served limit W (Count from to) = W

unfoldable pub answers : ℕ → Lists → List LineCall → List LineAnswer
answers limit W [] = []
answers limit W (c ∷ cs) = told limit W c ∷ answers limit (served limit W c) cs

unfoldable pub lists : ℕ → Lists → List LineCall → Lists
lists limit W [] = W
lists limit W (c ∷ cs) = lists limit (served limit W c) cs

-- ---- a queue of that limit

abbrev pub queue_tells : ℕ → List Message → LineCall → LineAnswer
queue_tells limit q (Post from to m) = Posted (put (nat_lt (length q) limit))
queue_tells limit q (Take from to) = Taken (oldest q)
queue_tells limit q (Count from to) = Counted (length q)

abbrev pub queue_serves : ℕ → List Message → LineCall → List Message
queue_serves limit q (Post from to m) = cond (nat_lt (length q) limit) (q ++ m ∷ []) q
queue_serves limit q (Take from to) = younger q
queue_serves limit q (Count from to) = q

unfoldable pub queue_answers : ℕ → List Message → List LineCall → List LineAnswer
queue_answers limit q [] = []
queue_answers limit q (c ∷ cs) = queue_tells limit q c ∷ queue_answers limit (queue_serves limit q c) cs

unfoldable pub queue : ℕ → List Message → List LineCall → List Message
queue limit q [] = q
queue limit q (c ∷ cs) = queue limit (queue_serves limit q c) cs

-- ---- the law

abbrev pub is_on : ℕ → ℕ → LineCall → Bool
is_on a b (Post from to m) = same from to a b
is_on a b (Take from to) = same from to a b
is_on a b (Count from to) = same from to a b

-- the calls on the pair a, b, and the answers to them
unfoldable pub calls_on : ℕ → ℕ → List LineCall → List LineCall
calls_on a b [] = []
calls_on a b (c ∷ cs) = cond (is_on a b c) (c ∷ calls_on a b cs) (calls_on a b cs)

unfoldable pub answers_on : ℕ → ℕ → List LineCall → List LineAnswer → List LineAnswer
answers_on a b [] rs = []
answers_on a b (c ∷ cs) [] = []
answers_on a b (c ∷ cs) (r ∷ rs) = cond (is_on a b c) (r ∷ answers_on a b cs rs) (answers_on a b cs rs)

-- what is done on one pair gives what a queue gives, whatever is done on other pairs
abbrev pub PairsAreQueues : Type 0
PairsAreQueues = (limit : ℕ) (W : Lists) (calls : List LineCall) (a b : ℕ) → inside a b ≡ true
    → (answers_on a b calls (answers limit W calls) ≡ queue_answers limit (W a b) (calls_on a b calls)) × (lists limit W calls a b ≡ queue limit (W a b) (calls_on a b calls))
