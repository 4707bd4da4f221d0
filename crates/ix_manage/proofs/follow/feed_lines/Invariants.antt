use Rattle.std.proofs.Common.{◌≡◌, ℕ, List, ◌++◌, length}
use Rattle.std.specs.Io.KnownBytes.{append_known}
use Rattle.ix_outside.specs.SinkState.{OnlyPuts}
use Rattle.ix_lines.specs.TextLines.{lines_of}
use Rattle.ix_manage.specs.FollowLines.{Follows}
use Rattle.ix_manage.proofs.follow.feed_lines.Given as goal

-- the lines before what is left are answered, and their answers put
abbrev pub invariant-loop-rest : goal.invariant-loop-rest
invariant-loop-rest g l =
    OnlyPuts (g.K.Sink.state l.fn.out) (g.K.Sink.state l.out)
    × (l.follower.form ≡ l.fn.follower.form)
    × (l.follower.limit ≡ l.fn.follower.limit)
    × ((front : List (List ℕ)) × (lines_of l.lines ≡ front ++ lines_of l.rest)
    × ((text : List ℕ) × Follows l.fn.follower.form l.fn.follower.limit front text l.follower.history
    × ((g.K.Sink.state l.out).written ≡ append_known (g.K.Sink.state l.fn.out).written text)))

abbrev pub decreases-loop-rest : goal.decreases-loop-rest
decreases-loop-rest g l = length l.rest
