use Rattle.picture.proofs.Pictures.{read_again}
use Rattle.picture.proofs.picture.Picture.spelling.Goals as goal

pub returns-clause-read : goal.returns-clause-read
returns-clause-read c = read_again c.written.result c.as_slice.result.now c.self.inside.description _ c.as_slice.ensures
    c.self.view_is c.self.invariant c.written.ensures
