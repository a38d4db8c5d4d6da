-- What the law claims: Laws, by Figures and what each text makes of them (Card, Page, Board, Export).
pub mod Figures
pub mod Card
pub mod Page
pub mod Board
pub mod Export
pub mod Laws
