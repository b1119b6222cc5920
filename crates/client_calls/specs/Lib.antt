-- `Serve`: one call by client, whatever its kind. `Laws`: when each status is given.
pub mod Serve
pub mod Laws
