use Rattle.ix_cli.proofs.Parsed.{parsed_matches}
use Rattle.ix_cli.proofs.matches.parse.Goals as goal

pub returns-in-Ok : goal.returns-in-Ok
returns-in-Ok c =
    let clap = c.in-Ok.ensures in
    parsed_matches c.args.command _ c.in-Ok.matches c.requires clap.parsed clap.matches
    (clap.kinds c.requires.simple)
