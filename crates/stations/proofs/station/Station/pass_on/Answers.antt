-- The lowest station that waits gets the lock, if there is one.
use Rattle.std.proofs.Common.{◌≡◌, get_or, arith}
use Rattle.lines.specs.declared.note.Note.TheVariants.{Grant}
use Rattle.protocol.specs.Station.{next}
use Rattle.stations.specs.Outgoing.{outgoing}
use Rattle.stations.specs.Shows.{shows, unlocked, waiters}
use Rattle.stations.proofs.Lowests.{lowest-of, lowest-small}
use Rattle.stations.proofs.Passing.{handed-none, handed-one, none_out, passed, taken_out}
use Rattle.stations.proofs.station.Station.pass_on.Goals as goal

pub returns-in-Some : goal.returns-in-Some
returns-in-Some c =
    let s = c.args.self.now in
    let f = c.args.event in
    let o = c.lowest-lock.result in
    let is : o ≡ next (shows s) f = lowest-of 8 _ o c.lowest-lock.ensures in
    record {
      after = passed s f (record { holder = o; waiting = c.without-lock.result }) (omega arith) is (λ w. taken_out o c.in-Some.station w _ _ c.in-Some.is (lowest-small 8 _ o c.in-Some.station c.lowest-lock.ensures c.in-Some.is) (c.without-lock.ensures.members w));
      posts = handed-one (shows s) f c.in-Some.station (Grant f c.args.given) o (outgoing c.args.out.now) _ c.in-Some.is is c.push.ensures.posts;
      count = omega (arith, c.push.ensures.count);
    }

pub returns-in_default : goal.returns-in_default
returns-in_default c =
    let s = c.args.self.now in
    let f = c.args.event in
    let o = c.lowest-lock.result in
    let is : o ≡ next (shows s) f = lowest-of 8 _ o c.lowest-lock.ensures in
    record {
      after = passed s f (record { holder = o; waiting = (get_or s.locks f unlocked).waiting }) (omega arith) is (λ w. none_out o w (waiters s.locks f w) c.in_default.is);
      posts = handed-none (shows s) f (Grant f c.args.given) o (outgoing c.args.out.now) c.in_default.is is;
      count = omega arith;
    }
