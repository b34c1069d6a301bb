-- The parts of a settle: the marks change, and then one lock after another is freed.
use Rattle.std.specs.Prelude.{ℕ, Bool, false, cond, ◌&&◌, ◌==◌, nat_lt}
use Rattle.events.specs.declared.marks.Marks.{Marks}
use Rattle.protocol.specs.Station.{Station, is, next, put}

abbrev pub remarked : Station → (ℕ → Marks) → Station
remarked S m = record { marks = m; request = S.request; holder = S.holder; waiting = S.waiting }

-- the lock of f is freed
abbrev pub passed_on : Station → ℕ → Station
passed_on S f =
    record {
      marks = S.marks;
      request = S.request;
      holder = put S.holder f (next S f);
      waiting = λ g w. cond (g == f && is (next S f) w) false (S.waiting g w);
    }

-- the locks below n that pass the test are freed
abbrev pub freed : (ℕ → Bool) → Station → ℕ → Station
freed p S n =
    record {
      marks = S.marks;
      request = S.request;
      holder = λ f. cond (nat_lt f n && p f) (next S f) (S.holder f);
      waiting = λ f w. cond ((nat_lt f n && p f) && is (next S f) w) false (S.waiting f w);
    }
