use Rattle.sigma_app.specs.Requests.{texts}
use Rattle.sigma_app.proofs.ToolLaws.{found_short, found_few, gathered, unfound}
use Rattle.sigma_app.proofs.gather.gather_few.Goals as goal

pub forms_of-requires-clause-short : goal.forms_of-requires-clause-short
forms_of-requires-clause-short g c =
    found_short (texts c.args.paths.now) (g.F.Files.told c.args.files.now) (g.F.Files.faults c.args.files.now) (g.F.Files.faults c.fetch_files.new.files) c.in-Found.parts
    (rw c.in-Found.is at c.in_ok-parts.ensures.found)

pub forms_of-requires-clause-few : goal.forms_of-requires-clause-few
forms_of-requires-clause-few g c =
    found_few c.args.paths.now (g.F.Files.told c.args.files.now) (g.F.Files.faults c.args.files.now) (g.F.Files.faults c.fetch_files.new.files) c.in-Found.parts
    (rw c.in-Found.is at c.in_ok-parts.ensures.found) c.requires.few

pub returns-in-Found-clause-gathers : goal.returns-in-Found-clause-gathers
returns-in-Found-clause-gathers g c =
    gathered c.args.paths.now (g.F.Files.told c.args.files.now) (g.F.Files.faults c.args.files.now) (g.F.Files.faults c.fetch_files.new.files) c.in-Found.parts
    c.requires.few (rw c.in-Found.is at c.in_ok-parts.ensures.found) c.forms_of.result c.forms_of.ensures

pub returns-in-Stopped-clause-gathers : goal.returns-in-Stopped-clause-gathers
returns-in-Stopped-clause-gathers g c =
    unfound c.args.paths.now (g.F.Files.told c.args.files.now) (g.F.Files.faults c.args.files.now) (g.F.Files.faults c.fetch_files.new.files) c.in-Stopped.reply
    c.requires.few (rw c.in-Stopped.is at c.in_ok-parts.ensures.found)
